-- What a slot stands for: the samples so far and the commands that it was given.
use Rattle.std.specs.Prelude.{◌≡◌, ◌≤◌, ◌<◌, ℕ, Bool, true, false, List, [], ◌∷◌, ◌++◌, length}
use Rattle.std.specs.Prelude.{take, map, Option, Some, None}
use Rattle.std.specs.List.{AllByRecursion}
use Rattle.definitions.specs.Samples.{Sample}
use Rattle.definitions.specs.Oscillators.{Settings}
use Rattle.definitions.specs.Answers.{answer_at_end}
use Rattle.definitions.specs.Commands.{TimedRequest, Request, Start}
use Rattle.definitions.specs.Lives.{Life, life_of, life_now, dumps_of_life}
use Rattle.definitions.specs.Events.{events_at_end, unprinted_count}
use Rattle.channels.specs.declared.window.Window.{Window}
use Rattle.channels.specs.Windows.{first_of, history_of}
use Rattle.sample_history.specs.Histories as histories
use Rattle.channel_slots.specs.declared.slot.Slot.{Slot}
use Rattle.slot_protocol.specs.declared.event.Event.{Event}
use Rattle.slot_protocol.specs.Events.{event_in}
use Rattle.slot_protocol.specs.declared.answer.Answer.{Answer}
use Rattle.slot_protocol.specs.Answers.{answer_in, IsRefusal}
use Rattle.channel_slots.specs.declared.stage.Stage.{Stage}
use Rattle.channel_slots.specs.Stages as stages

-- whether it follows nothing
abbrev pub is_idle : Slot → Bool
is_idle slot = stages.is_idle slot.stage

-- with how many samples of the recording it has something to do next
abbrev pub next_event : Slot → ℕ
next_event slot = stages.next_event slot.stage

-- how many events it may emit with the open samples that it hasn't taken
abbrev pub chances : Slot → ℕ
chances slot = stages.chance slot.stage

-- it finds all that it looks at up to number `to`, where these are held, and these are open
abbrev pub IsReady : ℕ → ℕ → ℕ → Slot → Type 0
IsReady held first to slot = stages.IsReady held first to slot.stage

-- so it does in a window
abbrev pub IsReadyIn : Window → ℕ → Slot → Type 0
IsReadyIn w to slot = IsReady (histories.first_of (history_of w)) (first_of w) to slot

-- how many cells its search has done: none where it doesn't search
abbrev pub cells_done_of : Slot → Option ℕ
cells_done_of slot = stages.cells_done_of slot.stage

-- a life that begins at a time, before any counts are asked for
abbrev pub first_life : ℕ → Start → Life
first_life time start =
    record { begun = time; start = start; wanted = 0; wanted_from = time }

-- a slot has this life, which the commands have left
pub record HasLife (settings : Settings) (xs : List Sample) (commands : List TimedRequest)
    (slot : Slot) : Type 0 where
  pub life : Life
  pub of : life_of settings xs commands ≡ Some life
  pub follows : stages.Follows settings xs life slot.stage
  pub left : slot.unprinted ≡ unprinted_count life (dumps_of_life settings xs life)
  pub asked : life.wanted_from ≤ length xs

-- the life that is on after the samples and commands: none, whatever samples come, where the slot
-- is idle, and else its own
abbrev pub IsOn : Settings → List Sample → List TimedRequest → Slot → Bool → Type 0
IsOn settings xs commands slot true =
    (ys : List Sample) → life_now settings (xs ++ ys) commands ≡ None
IsOn settings xs commands slot false = HasLife settings xs commands slot

pub record StandsFor (settings : Settings) (xs : List Sample) (commands : List TimedRequest)
    (slot : Slot) : Type 0 where
  pub early : AllByRecursion (λ (c : TimedRequest). c.time ≤ length xs) commands
  pub on : IsOn settings xs commands slot (is_idle slot)

-- with ys after xs nothing is emitted before the last of them, and then the events that were
-- answered
pub record Emits (settings : Settings) (xs ys : List Sample) (commands : List TimedRequest)
    (slot : Slot) (answer : List Event) : Type 0 where
  pub inside : (j : ℕ) → 0 < j → j < length ys
      → events_at_end settings (xs ++ take j ys) commands ≡ []
  pub told : map event_in answer ≡ events_at_end settings (xs ++ ys) commands
  pub stands : StandsFor settings (xs ++ ys) commands slot

-- a stage begins with a start at this time, after the samples so far
pub record BeginsAt (settings : Settings) (time : ℕ) (start : Start) (stage : Stage) : Type 0 where
  pub follows : (xs : List Sample) → length xs ≡ time
      → stages.Follows settings xs (first_life time start) stage
  pub ready : (held first : ℕ) → held ≤ time → first ≤ time
      → stages.IsReady held first time stage
  pub waits : time < stages.next_event stage

-- a slot took a request at this time, and answered it as the definition does; a refused one changes
-- nothing. The slot still finds all that it looks at, and its next event still comes later
pub record Obeys (settings : Settings) (time : ℕ) (request : Request) (old new : Slot)
    (answer : Answer) : Type 0 where
  pub answers : (xs : List Sample) (commands : List TimedRequest) → length xs ≡ time
      → StandsFor settings xs commands old
      → answer_in answer ≡ answer_at_end settings xs commands request
  pub stands : (xs : List Sample) (commands : List TimedRequest) → length xs ≡ time
      → StandsFor settings xs commands old
      → StandsFor settings xs (commands
      ++ record { time = length xs; request = request } ∷ []) new
  pub refused : IsRefusal answer → new ≡ old
  pub ready : (held first : ℕ) → held ≤ time → first ≤ time
      → IsReady held first time old → IsReady held first time new
  pub waits : time < next_event old → time < next_event new
