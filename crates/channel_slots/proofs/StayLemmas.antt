-- What is known of slots stays so while their samples wait.
use Rattle.std.proofs.Common.{◌≡◌, ◌≤◌, ◌<◌, ℕ, List, ◌++◌, length, refl}
use Rattle.std.proofs.Common.{sym, ap, subst, ◌∙◌, arith}
use Rattle.std.specs.Prelude.{Option, Some, None, IfSome, IsNone}
use Rattle.definitions.specs.Samples.{Sample}
use Rattle.definitions.specs.Oscillators.{Settings}
use Rattle.definitions.specs.Commands.{TimedRequest}
use Rattle.channels.specs.declared.window.Window.{Window}
use Rattle.sample_history.specs.declared.history.SampleHistory.{SampleHistory}
use Rattle.sample_history.specs.Histories as histories
use Rattle.channels.specs.Windows.{IsSame, end_of, first_of, history_of}
use Rattle.channels.proofs.SearchedLemmas as searches
use Rattle.channel_slots.specs.declared.slot.Slot.{Slot}
use Rattle.channel_slots.specs.declared.stage.Stage.{Stage}
use Rattle.channel_slots.specs.declared.stage.Stage.TheVariants.{Idle, Searching, Following}
use Rattle.channel_slots.specs.Stages as stages
use Rattle.channel_slots.specs.declared.slot_news.SlotNews.{SlotNews}
use Rattle.channel_slots.specs.NewsEvents.{time_of, time_after}
use Rattle.channel_slots.specs.Slots.{StandsFor, IsReady, IsReadyIn, next_event}
use Rattle.channel_slots.specs.declared.seat.Seat.{Seat}
use Rattle.channel_slots.specs.Banks.{SeatGoes, SeatPasses}
use Rattle.slot_protocol.specs.declared.event.SlotEvent.{SlotEvent}
use Rattle.channels.proofs.OverLemmas.{over-same}
use Rattle.channel_slots.proofs.SlotLemmas.{has-life}

pub same-again : (a b c : Window) → IsSame a b → IsSame b c → IsSame a c
same-again a b c s t = record {
  first = t.first ∙ s.first;
  end = t.end ∙ s.end;
  history = t.history ∙ s.history;
  stands = λ xs k. t.stands xs (s.stands xs k);
}

-- over a window with the same samples open
pub ready-as : (a b : Window) (slot : Slot) → first_of b ≡ first_of a
    → history_of b ≡ history_of a → IsReadyIn a (end_of a) slot
    → IsReadyIn b (end_of b) slot
ready-as a b slot first history ready =
    subst (λ (h : SampleHistory). IsReady (histories.first_of h) (first_of b)
    (histories.taken_of h) slot) (sym history)
    (subst (λ (n : ℕ). IsReady (histories.first_of (history_of a)) n (end_of a) slot)
    (sym first) ready)

-- what has come has come before the next event
stage-before : (settings : Settings) (xs : List Sample) (commands : List TimedRequest)
    (slot : Slot) (stage : Stage) (w : Window) → slot.stage ≡ stage
    → StandsFor settings xs commands slot → stages.next_event stage ≤ end_of w
    → length xs < stages.next_event stage
stage-before settings xs commands slot Idle w is s late =
    absurd (omega (arith, late, w.history.few))
stage-before settings xs commands slot (Searching a) w is s late =
    let life = has-life settings xs commands slot s (ap stages.is_idle is) in
    let k = subst (λ (t : Stage). stages.Follows settings xs life.life t) is life.follows in
    searches.next-later settings k.plan life.life.begun xs a k.searches k.waits
stage-before settings xs commands slot (Following f) w is s late =
    let life = has-life settings xs commands slot s (ap stages.is_idle is) in
    let k = subst (λ (t : Stage). stages.Follows settings xs life.life t) is life.follows in
    k.follows.follows.goes_on

pub stands-before : (settings : Settings) (xs : List Sample) (commands : List TimedRequest)
    (slot : Slot) (w : Window) → next_event slot ≤ end_of w → StandsFor settings xs commands slot
    → length xs < next_event slot
stands-before settings xs commands slot w late s =
    stage-before settings xs commands slot slot.stage w refl s late

-- a seat that has gone through a window has gone through any with the same samples open
pub goes-as : (a b : Window) (p q : Seat) (before after : List SlotEvent) → IsSame a b
    → SeatGoes b p q before after → SeatGoes a p q before after
goes-as a b p q before after same g = record {
  events = g.events;
  client = g.client;
  number = g.number;
  few = g.few;
  added = g.added;
  ready = λ known.
      ready-as b a q.slot (sym same.first) (sym same.history)
      (g.ready (ready-as a b p.slot same.first same.history known));
  tells = λ settings xs ys commands now over s.
      g.tells settings xs ys commands (now ∙ sym same.end) (over-same (xs ++ ys) a b same over) s;
}

-- and has passed through it
pub passes-as : (a b : Window) (p q : Seat) → IsSame a b → SeatPasses b p q → SeatPasses a p q
passes-as a b p q same g = record {
  client = g.client;
  number = g.number;
  next = g.next;
  ready = λ known.
      subst (λ (h : SampleHistory). IsReady (histories.first_of h) (histories.taken_of h)
      (histories.taken_of h) q.slot) same.history
      (g.ready (ready-as a b p.slot same.first same.history known));
  stands = λ settings xs commands now over s.
      g.stands settings xs commands (now ∙ sym same.end) (over-same xs a b same over) s;
}

-- before its next event nothing comes
pub no-news : (news : Option SlotNews) (to next : ℕ) → to < next
    → IfSome news (λ n. next ≤ time_of n) → time_after to news ≤ to → IsNone news
no-news None to next early later within = refl
no-news (Some n) to next early later within = absurd (omega (arith, early, later, within))
