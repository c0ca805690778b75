-- A seat that goes through a window by its events.
use Rattle.std.proofs.Common.{◌≡◌, ◌≤◌, ◌<◌, ◌+◌, ◌-◌, ℕ, List, [], ◌++◌, length, take, drop}
use Rattle.std.proofs.Common.{inl, inr, refl, sym, ap, ◌∙◌, arith, subst}
use Rattle.std.proofs.Common.{append-nil, append_assoc, length-append}
use Rattle.std.specs.Prelude.{map}
use Rattle.std.proofs.lemmas.Bool.{cases_lt}
use Rattle.std.proofs.lemmas.List.{map-append, length-take-le, length-drop, take_all}
use Rattle.std.proofs.lemmas.List.{take-append-drop, take-append-le}
use Rattle.std.proofs.Math.Seq.{take-append_seam}
use Rattle.definitions.specs.Samples.{Sample}
use Rattle.definitions.specs.Oscillators.{Settings}
use Rattle.definitions.specs.Commands.{TimedRequest}
use Rattle.definitions.specs.Events.{Event as DefinedEvent}
use Rattle.definitions.specs.Banks.{SlotEvent as DefinedSlotEvent, slot_events}
use Rattle.definitions.specs.Receiver.{at_each_sample}
use Rattle.slot_protocol.specs.declared.event.Event.{Event}
use Rattle.slot_protocol.specs.declared.event.SlotEvent.{SlotEvent}
use Rattle.slot_protocol.specs.Events.{AreEvents, slot_event_in, time_in}
use Rattle.channels.specs.declared.window.Window.{Window}
use Rattle.channels.specs.Windows.{IsOver, end_of}
use Rattle.channel_slots.specs.declared.seat.Seat.{Seat}
use Rattle.channel_slots.specs.Orders.{put_all}
use Rattle.channel_slots.specs.Slots.{StandsFor, Emits, IsReadyIn, next_event}
use Rattle.channel_slots.specs.Banks.{SeatGoes, SeatHasEmitted, slot_emits}
use Rattle.channel_slots.specs.Timelines.{event_at}
use Rattle.channel_slots.proofs.OrderLemmas.{put_all-append}
use Rattle.channel_slots.proofs.SeatLemmas.{are_told}
use Rattle.channel_slots.proofs.TellingLemmas.{take_part}
use Rattle.channel_slots.proofs.TellingLemmas.{at_each_sample-append, at_each_sample-last}

-- a window that is over some samples is over the first of them
pub over-front : (zs rest : List Sample) (w : Window) → IsOver (zs ++ rest) w → IsOver zs w
over-front zs rest w over = record {
  all = over.all;
  stands = over.stands;
  begins =
      let front : List Sample = take (length (zs ++ rest)) over.all in
      let fewer : length zs ≤ length (zs ++ rest) = omega (arith, length-append zs rest) in
      let long : length front ≡ length (zs ++ rest) =
      length-take-le (length (zs ++ rest)) over.all over.within in
      ap (λ (l : List Sample). take (length zs) l)
      (sym (take-append-drop (length (zs ++ rest)) over.all))
      ∙ take-append-le (length zs) front (drop (length (zs ++ rest)) over.all)
      (omega (arith, fewer, long))
      ∙ ap (λ (l : List Sample). take (length zs) l) over.begins
      ∙ take-append_seam zs rest;
  within = omega (arith, over.within, length-append zs rest);
}

-- it has gone through the first of some samples, of which it has emitted the events
pub record HasGoneBy (settings : Settings) (xs ys : List Sample) (commands : List TimedRequest)
    (p q : Seat) (events : List SlotEvent) : Type 0 where
  pub count : ℕ
  pub within : count ≤ length ys
  pub emitted : SeatHasEmitted settings xs (take count ys) commands p q events

-- it has done so far as it has gone, and its events are inserted by time
pub record HasGone (w : Window) (p q : Seat) (before after : List SlotEvent) : Type 0 where
  pub events : List SlotEvent
  pub client : q.client ≡ p.client
  pub number : q.number ≡ p.number
  pub added : after ≡ put_all time_in before events
  pub ready : IsReadyIn w (end_of w) p.slot → IsReadyIn w (end_of w) q.slot
  pub tells : (settings : Settings) (xs ys : List Sample) (commands : List TimedRequest)
      → length (xs ++ ys) ≡ end_of w → IsOver (xs ++ ys) w
      → StandsFor settings xs commands p.slot
      → HasGoneBy settings xs ys commands p q events

pub begins : (w : Window) (p : Seat) (before : List SlotEvent) → HasGone w p p before before
unfolding at_each_sample put_all
begins w p before = record {
  events = [];
  client = refl;
  number = refl;
  added = refl;
  ready = λ ready. ready;
  tells = λ settings xs ys commands now over s. record {
    count = 0;
    within = omega arith;
    emitted = record { told = refl; stands = rw (append-nil xs) s };
  };
}

both_told : (es fs : List SlotEvent) (ts us : List DefinedSlotEvent) → AreEvents es ts
    → AreEvents fs us → AreEvents (es ++ fs) (ts ++ us)
both_told es fs ts us a b = map-append slot_event_in es fs ∙ (λ i. a i ++ b i)

-- samples that bring no event but with the last of them
module _ (settings : Settings) (xs ys zs : List Sample) (commands : List TimedRequest)
    (p q r : Seat) (before : List SlotEvent) (es : List Event)
    (had : SeatHasEmitted settings xs ys commands p q before) (some : 0 < length zs)
    (client : q.client ≡ p.client) (number : q.number ≡ p.number)
    (emits : Emits settings (xs ++ ys) zs commands r.slot es) where
  abbrev here : ℕ
  here = length ((xs ++ ys) ++ zs)

  abbrev own : List Sample → List DefinedSlotEvent
  own = slot_emits settings p.client p.number commands

  last : at_each_sample own (xs ++ ys) zs ≡ own ((xs ++ ys) ++ zs)
  last =
      at_each_sample-last own (xs ++ ys) zs some
      (λ j first b. ap (λ (l : List DefinedEvent). slot_events p.client p.number
      (length ((xs ++ ys) ++ take j zs)) l) (emits.inside j first b))

  told : AreEvents (map (event_at q.client q.number here) es) (own ((xs ++ ys) ++ zs))
  told = rw (client, number) (are_told p here es _ emits.told)

  pub emitted-more : SeatHasEmitted settings xs (ys ++ zs) commands p r
      (before ++ map (event_at q.client q.number here) es)
  emitted-more = record {
    told =
        rw (at_each_sample-append own xs ys zs, last)
        (both_told before _ (at_each_sample own xs ys) _ had.told told);
    stands = rw (sym (append_assoc xs ys zs)) emits.stands;
  }

-- its slot goes to its next event, or to the end where none comes
module _ (w : Window) (p q r : Seat) (before mid after : List SlotEvent) (es : List Event) (to : ℕ)
    (g : HasGone w p q before mid) (later : next_event q.slot ≤ to) (within : to ≤ end_of w)
    (emits : (settings : Settings) (xs ys : List Sample) (commands : List TimedRequest)
    → 0 < length ys → length (xs ++ ys) ≡ to → IsOver (xs ++ ys) w
    → StandsFor settings xs commands q.slot → Emits settings xs ys commands r.slot es)
    (stands-before : (settings : Settings) (xs : List Sample) (commands : List TimedRequest)
    → StandsFor settings xs commands q.slot → length xs < next_event q.slot)
    (ready : IsReadyIn w (end_of w) q.slot → IsReadyIn w (end_of w) r.slot)
    (client : r.client ≡ q.client) (number : r.number ≡ q.number)
    (added : after ≡ put_all time_in mid (map (event_at q.client q.number to) es)) where
  tells-on : (settings : Settings) (xs ys : List Sample) (commands : List TimedRequest)
      → length (xs ++ ys) ≡ end_of w → IsOver (xs ++ ys) w
      → StandsFor settings xs commands p.slot
      → HasGoneBy settings xs ys commands p r
      (g.events ++ map (event_at q.client q.number to) es)
  tells-on settings xs ys commands now over s =
      let had = g.tells settings xs ys commands now over s in
      let front : List Sample = take had.count ys in
      let rest : List Sample = drop had.count ys in
      let begun : length (xs ++ front) < next_event q.slot =
      stands-before settings (xs ++ front) commands had.emitted.stands in
      let n : ℕ = to - length (xs ++ front) in
      let all : xs ++ ys ≡ (xs ++ front) ++ rest =
      ap (λ (l : List Sample). xs ++ l) (sym (take-append-drop had.count ys))
      ∙ sym (append_assoc xs front rest) in
      let many : length (xs ++ ys) ≡ length (xs ++ front) + length rest =
      ap length all ∙ length-append (xs ++ front) rest in
      let few : n ≤ length rest = omega (arith, many, now, within) in
      let zs : List Sample = take n rest in
      let long : length zs ≡ n = length-take-le n rest few in
      let there : length ((xs ++ front) ++ zs) ≡ to =
      omega (arith, length-append (xs ++ front) zs, long, begun, later) in
      let whole : xs ++ ys ≡ ((xs ++ front) ++ zs) ++ drop n rest =
      all ∙ ap (λ (l : List Sample). (xs ++ front) ++ l) (sym (take-append-drop n rest))
      ∙ sym (append_assoc (xs ++ front) zs (drop n rest)) in
      let part : take (had.count + n) ys ≡ front ++ zs = take_part ys had.count n in
      let some : 0 < length zs = omega (arith, long, begun, later) in
      record {
        count = had.count + n;
        within = omega (arith, few, had.within, length-drop had.count ys);
        emitted = rw part (subst
            (λ (t : ℕ). SeatHasEmitted settings xs (front ++ zs) commands p r
            (g.events ++ map (event_at q.client q.number t) es)) there
            (emitted-more settings xs front zs commands p q r g.events es had.emitted some
            g.client g.number (emits settings (xs ++ front) zs commands some there
            (over-front ((xs ++ front) ++ zs) (drop n rest) w (rw whole at over))
            had.emitted.stands)));
      }

  pub goes-to : HasGone w p r before after
  goes-to = record {
    events = g.events ++ map (event_at q.client q.number to) es;
    client = client ∙ g.client;
    number = number ∙ g.number;
    added =
        added ∙ ap (λ (l : List SlotEvent). put_all time_in l
        (map (event_at q.client q.number to) es)) g.added
        ∙ sym (put_all-append time_in before g.events (map (event_at q.client q.number to) es));
    ready = λ known. ready (g.ready known);
    tells = tells-on;
  }

-- at its last event it has gone through the window
pub goes : (w : Window) (p q : Seat) (before after : List SlotEvent) → HasGone w p q before after
    → length after ≤ length before + 7
    → ((settings : Settings) (xs ys : List Sample) (commands : List TimedRequest)
    → StandsFor settings xs commands q.slot → 0 < length ys → length (xs ++ ys) ≡ end_of w
    → Emits settings xs ys commands q.slot []) → SeatGoes w p q before after
unfolding at_each_sample
goes w p q before after g few quiet = record {
  events = g.events;
  client = g.client;
  number = g.number;
  few = few;
  added = g.added;
  ready = g.ready;
  tells = λ settings xs ys commands now over s. by_rest settings xs ys commands now
      (g.tells settings xs ys commands now over s);
}
  where
    whole : (settings : Settings) (xs ys : List Sample) (commands : List TimedRequest)
        → length (xs ++ ys) ≡ end_of w → (had : HasGoneBy settings xs ys commands p q g.events)
        → had.count < length ys → SeatHasEmitted settings xs ys commands p q g.events
    whole settings xs ys commands now had some =
        let front : List Sample = take had.count ys in
        let rest : List Sample = drop had.count ys in
        let two : front ++ rest ≡ ys = take-append-drop had.count ys in
        let all : (xs ++ front) ++ rest ≡ xs ++ ys =
        append_assoc xs front rest ∙ ap (λ (l : List Sample). xs ++ l) two in
        let more : 0 < length rest = omega (arith, some, length-drop had.count ys) in
        rw (two, append-nil g.events) at (emitted-more settings xs front rest commands p q q
        g.events [] had.emitted more g.client g.number
        (quiet settings (xs ++ front) rest commands had.emitted.stands more (ap length all ∙ now)))

    by_rest : (settings : Settings) (xs ys : List Sample) (commands : List TimedRequest)
        → length (xs ++ ys) ≡ end_of w → HasGoneBy settings xs ys commands p q g.events
        → SeatHasEmitted settings xs ys commands p q g.events
    by_rest settings xs ys commands now had = elim (cases_lt had.count (length ys)) [
      | inl some ↦ whole settings xs ys commands now had some
      | inr none ↦ rw (take_all had.count ys none) at had.emitted
    ]
