-- Answers to commands as the definitions have them.
use Rattle.std.specs.Prelude.{ℕ, Bool, true, false, Option, Some, None}
use Rattle.definitions.specs.Answers.{View, idle, acquiring, holding, tracking}
use Rattle.definitions.specs.Answers.{Answer as DefinedAnswer}
use Rattle.definitions.specs.Answers.{accepted, refused, shown}
use Rattle.slot_protocol.specs.declared.answer.Phase.{Phase}
use Rattle.slot_protocol.specs.declared.answer.Phase.TheVariants.{Unlocked, Locked, Edged}
use Rattle.slot_protocol.specs.declared.answer.SlotState.{SlotState}
use Rattle.slot_protocol.specs.declared.answer.SlotState.TheVariants as states
use Rattle.slot_protocol.specs.declared.answer.Refusal.{Refusal}
use Rattle.slot_protocol.specs.declared.answer.Refusal.TheVariants as refusals
use Rattle.slot_protocol.specs.declared.answer.Answer.{Answer}
use Rattle.slot_protocol.specs.declared.answer.Answer.TheVariants.{Accepted, Refused, State}

abbrev pub is_locked_in : Phase → Bool
is_locked_in Unlocked = false
is_locked_in Locked = true
is_locked_in Edged = true

abbrev pub has_edge_in : Phase → Bool
has_edge_in Unlocked = false
has_edge_in Locked = false
has_edge_in Edged = true

abbrev pub view_in : SlotState → View
view_in states.Idle = idle
view_in (states.Acquire prn done cells) = acquiring prn done cells
view_in (states.Hold prn dumps) = holding prn dumps
view_in (states.Track prn dumps v w phase) =
    tracking prn dumps (record { v = v; w = w }) (is_locked_in phase) (has_edge_in phase)

-- the number that is printed
abbrev pub number_of : Refusal → ℕ
number_of refusals.Busy = 9
number_of refusals.Idle = 10
number_of refusals.NoSuchSlot = 8

abbrev pub answer_in : Answer → DefinedAnswer
answer_in Accepted = accepted
answer_in (Refused refusal) = refused (number_of refusal)
answer_in (State state) = shown (view_in state)

-- how many cells are done of what is shown: none where nothing is searched for
abbrev pub cells_in_view : View → Option ℕ
cells_in_view idle = None
cells_in_view (acquiring prn done cells) = Some done
cells_in_view (holding prn dumps) = None
cells_in_view (tracking prn dumps shift is_locked has_edge) = None

abbrev pub cells_shown : DefinedAnswer → Option ℕ
cells_shown accepted = None
cells_shown (refused number) = None
cells_shown (shown view) = cells_in_view view

abbrev pub IsRefusal : Answer → Type 0
IsRefusal Accepted = ⊥
IsRefusal (Refused refusal) = Unit
IsRefusal (State state) = ⊥
