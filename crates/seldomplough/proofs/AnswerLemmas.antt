-- What becomes of answers.
use Rattle.std.proofs.Common.{◌≡◌, ℕ, List}
use Rattle.std.specs.Prelude.{Option, Some, None, Result}
use Rattle.definitions.specs.Samples.{Sample}
use Rattle.definitions.specs.Oscillators.{Settings}
use Rattle.definitions.specs.Commands.{TimedRequest, Request, begin, counts, state, stop}
use Rattle.definitions.specs.Lives.{Life, life_now}
use Rattle.definitions.specs.Answers.{View, answer_at_end, answer_with, shown, accepted}
use Rattle.slot_protocol.specs.declared.answer.Answer.{Answer}
use Rattle.slot_protocol.specs.declared.answer.Answer.TheVariants.{Accepted, Refused, State}
use Rattle.slot_protocol.specs.declared.answer.Refusal.{Refusal}
use Rattle.slot_protocol.specs.declared.answer.Refusal.TheVariants.{NoSuchSlot}
use Rattle.slot_protocol.specs.declared.answer.SlotState.{SlotState}
use Rattle.slot_protocol.specs.declared.answer.SlotState.TheVariants.{Idle}
use Rattle.slot_protocol.specs.Answers.{view_in, answer_in, IsRefusal}
use Rattle.seldomplough.specs.declared.receiver.Receiver.{Receiver}
use Rattle.seldomplough.specs.Answers.{Asks, with_outcome, outcome_of, with_state, state_of}

-- a request other than `state`
abbrev pub IsOther : Request → Type 0
IsOther (begin start) = Unit
IsOther (counts n) = Unit
IsOther state = ⊥
IsOther stop = Unit

shows-nothing : (settings : Settings) (xs : List Sample) (on : Option Life) (request : Request)
    (view : View) → IsOther request → shown view ≡ answer_with settings xs on request → ⊥
shows-nothing settings xs None (begin start) view other e = cc
shows-nothing settings xs (Some life) (begin start) view other e = cc
shows-nothing settings xs None (counts n) view other e = cc
shows-nothing settings xs (Some life) (counts n) view other e = cc
shows-nothing settings xs on state view other e = absurd other
shows-nothing settings xs None stop view other e = cc
shows-nothing settings xs (Some life) stop view other e = cc

never-shown : (settings : Settings) (xs : List Sample) (commands : List TimedRequest)
    (request : Request) (view : View) → IsOther request
    → shown view ≡ answer_at_end settings xs commands request → ⊥
unfolding answer_at_end
never-shown settings xs commands request view other e =
    shows-nothing settings xs (life_now settings xs commands) request view other e

never-accepted : (settings : Settings) (xs : List Sample) (commands : List TimedRequest)
    → accepted ≡ answer_at_end settings xs commands state → ⊥
unfolding answer_at_end
never-accepted settings xs commands e = of_life (life_now settings xs commands) e
  where
    of_life : (on : Option Life) → accepted ≡ answer_with settings xs on state → ⊥
    of_life None e = cc
    of_life (Some life) e = cc

-- where no slot gives an answer, another than a refusal stands for it
gives-other : (client slot : ℕ) (request : Request) (answer given : Answer) (old new : Receiver)
    → ((settings : Settings) (xs : List Sample) (commands : List TimedRequest)
    → answer_in answer ≡ answer_at_end settings xs commands request → ⊥)
    → (answer ≡ Refused NoSuchSlot → ⊥) → (IsRefusal given → ⊥)
    → Asks client slot request answer old new → Asks client slot request given old new
gives-other client slot request answer given old new never accepts gives a = record {
  answered = λ settings xs asked stands has. absurd
      (never settings xs (asked client slot) (a.answered settings xs asked stands has));
  stands = a.stands;
  none = λ lacks. absurd (accepts (a.none lacks));
  refused = λ e. absurd (gives e);
  settings_same = a.settings_same;
  shares_same = a.shares_same;
  time_same = a.time_same;
  events_same = a.events_same;
}

-- a command other than `state`, by what became of it
pub asks-outcome : (client slot : ℕ) (request : Request) (answer : Answer) (old new : Receiver)
    → IsOther request → Asks client slot request answer old new
    → Asks client slot request (with_outcome (outcome_of answer)) old new
asks-outcome client slot request Accepted old new other a = a
asks-outcome client slot request (Refused refusal) old new other a = a
asks-outcome client slot request (State s) old new other a =
    gives-other client slot request (State s) Accepted old new
    (λ settings xs commands e. never-shown settings xs commands request (view_in s) other e)
    (λ e. cc) (λ e. absurd e) a

-- and `state`
pub asks-state : (client slot : ℕ) (answer : Answer) (old new : Receiver)
    → Asks client slot state answer old new
    → Asks client slot state (with_state (state_of answer)) old new
asks-state client slot Accepted old new a =
    gives-other client slot state Accepted (State Idle) old new never-accepted
    (λ e. cc) (λ e. absurd e) a
asks-state client slot (Refused refusal) old new a = a
asks-state client slot (State view) old new a = a

-- the same of a result
pub outcome-asks : (client slot : ℕ) (request : Request) (answer : Answer)
    (result : Result Unit Refusal) (old new : Receiver) → IsOther request
    → result ≡ outcome_of answer → Asks client slot request answer old new
    → Asks client slot request (with_outcome result) old new
outcome-asks client slot request answer result old new other is a =
    rw is (asks-outcome client slot request answer old new other a)

pub state-asks : (client slot : ℕ) (answer : Answer) (result : Result SlotState Refusal)
    (old new : Receiver) → result ≡ state_of answer → Asks client slot state answer old new
    → Asks client slot state (with_state result) old new
state-asks client slot answer result old new is a =
    rw is (asks-state client slot answer old new a)
