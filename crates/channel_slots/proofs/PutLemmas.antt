-- Events that are put one after the other.
use Rattle.std.proofs.Common.{◌≡◌, ◌≤◌, ◌+◌, ℕ, List, [], ◌∷◌, ◌++◌, length, refl, sym, ap, ◌∙◌}
use Rattle.std.proofs.Common.{arith}
use Rattle.std.specs.Prelude.{map, Option, Some, None, option_map, MatchOption, IsSomeAnd}
use Rattle.std.specs.Prelude.{Result, Ok, Err, IsOk, is_ok, cond}
use Rattle.std.proofs.lemmas.List.{map-append, length-map}
use Rattle.slot_protocol.specs.declared.event.Event.{Event}
use Rattle.slot_protocol.specs.declared.event.SlotEvent.{SlotEvent}
use Rattle.slot_protocol.specs.Events.{time_in}
use Rattle.channel_slots.specs.declared.timeline.Timeline.{Timeline}
use Rattle.channel_slots.specs.Timelines.{Puts, events_in, event_at, count_of}
use Rattle.channel_slots.specs.Orders.{put_in, put_all}
use Rattle.channel_slots.proofs.OrderLemmas.{put_all-append, put_all-length}

pub puts-none : (t : Timeline) → Puts [] t t
unfolding put_all
puts-none t = record { client = refl; slot = refl; time = refl; puts = refl }

pub put-one : (before after : List SlotEvent) (next : SlotEvent)
    → after ≡ put_in time_in next before → after ≡ put_all time_in before (next ∷ [])
unfolding put_all
put-one before after next e = e

-- what was put into a list that had room for it
pub put-in-room : {A E : Type 0} (r : Result Unit E) (is was now : List A) → IsOk r
    → now ≡ cond (is_ok r) is was → now ≡ is
put-in-room (Ok _) is was now room e = e
put-in-room (Err _) is was now room e = search (room)

pub puts-more : (es fs : List Event) (a b c : Timeline) → Puts es a b → Puts fs b c
    → Puts (es ++ fs) a c
puts-more es fs a b c one two =
    let next : Event → SlotEvent = event_at a.client a.slot a.time in
    let then : events_in c ≡ put_all time_in (events_in b) (map next fs) =
    rw (one.client, one.slot, one.time) at two.puts in
    record {
      client = two.client ∙ one.client;
      slot = two.slot ∙ one.slot;
      time = two.time ∙ one.time;
      puts =
          then ∙ ap (λ (l : List SlotEvent). put_all time_in l (map next fs)) one.puts
          ∙ sym (put_all-append time_in (events_in a) (map next es) (map next fs))
          ∙ ap (put_all time_in (events_in a)) (sym (map-append next es fs));
    }

-- how many there are then
pub put-count : (client slot time : ℕ) (events : List Event) (before after : List SlotEvent)
    → after ≡ put_all time_in before (map (event_at client slot time) events)
    → length after ≡ length before + length events
put-count client slot time events before after e =
    ap length e ∙ put_all-length time_in before _
    ∙ ap (λ (n : ℕ). length before + n) (length-map events (event_at client slot time))

pub few-put : (es : List Event) (a b : Timeline) (n : ℕ) → Puts es a b → length es ≤ n
    → count_of b ≤ count_of a + n
few-put es a b n puts few =
    omega (arith, few, put-count a.client a.slot a.time es (events_in a) (events_in b) puts.puts)

-- an option whose content is changed
pub mapped : {A : Type 0} (f : A → Event) (o : Option A) (r : Option Event)
    → MatchOption o (r ≡ None) (λ x. IsSomeAnd r (λ y. y ≡ f x)) → r ≡ option_map f o
mapped f None r h = h
mapped f (Some x) None h = absurd h
mapped f (Some x) (Some y) h = ap (λ e. Some e) h
