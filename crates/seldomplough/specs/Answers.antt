-- What a receiver does when a client asks something of a slot.
use Rattle.std.specs.Prelude.{◌≡◌, ℕ, List, length, Result, Ok, Err}
use Rattle.definitions.specs.Samples.{Sample}
use Rattle.definitions.specs.Oscillators.{Settings}
use Rattle.definitions.specs.Commands.{TimedRequest, Request}
use Rattle.definitions.specs.Answers.{answer_at_end}
use Rattle.definitions.specs.Banks.{with_command}
use Rattle.slot_protocol.specs.declared.answer.Answer.{Answer}
use Rattle.slot_protocol.specs.declared.answer.Answer.TheVariants.{Accepted, Refused, State}
use Rattle.slot_protocol.specs.declared.answer.Refusal.{Refusal}
use Rattle.slot_protocol.specs.declared.answer.Refusal.TheVariants.{NoSuchSlot}
use Rattle.slot_protocol.specs.declared.answer.SlotState.{SlotState}
use Rattle.slot_protocol.specs.declared.answer.SlotState.TheVariants.{Idle}
use Rattle.slot_protocol.specs.Answers.{answer_in, IsRefusal}
use Rattle.channel_slots.specs.BankStates.{HasSlot, LacksSlot}
use Rattle.seldomplough.specs.declared.receiver.Receiver.{Receiver}
use Rattle.seldomplough.specs.Receivers.{StandsFor, settings_of, shares_of, time_of, events_in}

-- the answer that a command other than `state` had
abbrev pub with_outcome : Result Unit Refusal → Answer
with_outcome (Ok done) = Accepted
with_outcome (Err refusal) = Refused refusal

-- and the answer that `state` had
abbrev pub with_state : Result SlotState Refusal → Answer
with_state (Ok state) = State state
with_state (Err refusal) = Refused refusal

-- a client asked something of a slot, and was answered. Where it has that slot the answer is the
-- one that is defined, and the receiver stands for one command more.
pub record Asks (client slot : ℕ) (request : Request) (answer : Answer) (old new : Receiver)
    : Type 0 where
  pub answered : (settings : Settings) (xs : List Sample) (asked : ℕ → ℕ → List TimedRequest)
      → StandsFor settings xs asked old → HasSlot old.bank client slot
      → answer_in answer ≡ answer_at_end settings xs (asked client slot) request
  pub stands : (settings : Settings) (xs : List Sample) (asked : ℕ → ℕ → List TimedRequest)
      → StandsFor settings xs asked old → HasSlot old.bank client slot
      → StandsFor settings xs (with_command asked client slot (length xs) request) new
  pub none : LacksSlot old.bank client slot → answer ≡ Refused NoSuchSlot
  pub refused : IsRefusal answer → new ≡ old
  pub settings_same : settings_of new ≡ settings_of old
  pub shares_same : shares_of new ≡ shares_of old
  pub time_same : time_of new ≡ time_of old
  pub events_same : events_in new ≡ events_in old

-- what becomes of an answer to a command other than `state`
abbrev pub outcome_of : Answer → Result Unit Refusal
outcome_of Accepted = Ok tt
outcome_of (Refused refusal) = Err refusal
outcome_of (State state) = Ok tt

-- and to `state`; no slot accepts it without showing itself
abbrev pub state_of : Answer → Result SlotState Refusal
state_of Accepted = Ok Idle
state_of (Refused refusal) = Err refusal
state_of (State state) = Ok state
