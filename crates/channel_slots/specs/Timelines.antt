-- The events over a run of samples, in order of time.
use Rattle.std.specs.Prelude.{◌≡◌, ℕ, List, map, length}
use Rattle.slot_protocol.specs.declared.event.Event.{Event}
use Rattle.slot_protocol.specs.declared.event.SlotEvent.{SlotEvent}
use Rattle.slot_protocol.specs.Events.{time_in}
use Rattle.channel_slots.specs.Orders.{put_all}
use Rattle.channel_slots.specs.declared.timeline.Timeline.{Timeline}

abbrev pub events_in : Timeline → List SlotEvent
events_in t = t.events.items

abbrev pub count_of : Timeline → ℕ
count_of t = length t.events.items

-- an event of a client's slot at a time
abbrev pub event_at : ℕ → ℕ → ℕ → Event → SlotEvent
event_at client slot time event =
    record { client = client; slot = slot; time = time; event = event }

-- events of a client's slot at a time were put by it, each after all that aren't later
abbrev pub PutsAt : ℕ → ℕ → ℕ → List Event → Timeline → Timeline → Type 0
PutsAt client slot time events old new =
    events_in new ≡ put_all time_in (events_in old) (map (event_at client slot time) events)

-- such events of the slot and the time whose turn it is, which stay
pub record Puts (events : List Event) (old new : Timeline) : Type 0 where
  pub client : new.client ≡ old.client
  pub slot : new.slot ≡ old.slot
  pub time : new.time ≡ old.time
  pub puts : PutsAt old.client old.slot old.time events old new
