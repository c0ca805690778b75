-- What many slots side by side emit, before it is text. A slot is named by its client, of those
-- numbered from 1, and its number. (This project's own.)
use Rattle.std.specs.Prelude.{ℕ, ◌==◌, ◌&&◌, if◌then◌else◌, List, [], ◌∷◌, ◌++◌}
use Rattle.std.specs.Prelude.{length, map, flat_map}
use Rattle.std.specs.List.{range_with_len, enumerate_from}
use Rattle.definitions.specs.Samples.{Sample}
use Rattle.definitions.specs.Oscillators.{Settings}
use Rattle.definitions.specs.Commands.{TimedRequest, Request}
use Rattle.definitions.specs.Events.{Event, events_at_end}
use Rattle.definitions.specs.Texts.{event_text, at_time, for_client}

-- whose slot emits, when, and what
pub record SlotEvent : Type 0 where
  pub client : ℕ
  pub slot : ℕ
  pub time : ℕ
  pub event : Event

-- its line
abbrev pub line_of : SlotEvent → List ℕ
line_of t = for_client t.client (at_time t.time (event_text t.slot t.event))

-- events of one slot at a time
abbrev pub slot_events : ℕ → ℕ → ℕ → List Event → List SlotEvent
slot_events client slot time events =
    map (λ event. record { client = client; slot = slot; time = time; event = event }) events

-- what the last sample makes these slots emit, in their order, each pair being a client and a slot;
-- asked gives the commands of each
unfoldable pub bank_events_at_end : Settings → List (ℕ × ℕ) → (ℕ → ℕ → List TimedRequest)
    → List Sample → List SlotEvent
bank_events_at_end settings keys asked xs =
    flat_map (λ (client, slot). slot_events client slot (length xs)
    (events_at_end settings xs (asked client slot))) keys

-- the slots of clients that have these shares of them, by client and then by slot
abbrev pub layout : List ℕ → List (ℕ × ℕ)
layout shares =
    flat_map (λ (client, share). map (λ slot. (client, slot)) (range_with_len 0 share))
    (enumerate_from 1 shares)

-- the commands, and one more to a client's slot
abbrev pub with_command : (ℕ → ℕ → List TimedRequest) → ℕ → ℕ → ℕ → Request → ℕ → ℕ
    → List TimedRequest
with_command asked client slot time request c s =
    if c == client && s == slot then asked c s ++ record { time = time; request = request } ∷ []
    else asked c s
