-- What a slot does when a client asks something of it.
use Rattle.std.proofs.Common.{◌≡◌, ℕ, List, length, refl, ◌∙◌, arith}
use Rattle.std.specs.Prelude.{Option, Some, None, true, false}
use Rattle.definitions.specs.Samples.{Sample}
use Rattle.definitions.specs.Oscillators.{Settings}
use Rattle.definitions.specs.Commands.{Request, Start, begin}
use Rattle.definitions.specs.Lives.{Life, life_with}
use Rattle.definitions.specs.Answers.{answer_with, refused}
use Rattle.slot_protocol.specs.declared.answer.Answer.TheVariants.{Accepted, Refused}
use Rattle.slot_protocol.specs.declared.answer.Refusal.TheVariants as refusals
use Rattle.channel_slots.specs.declared.slot.Slot.{Slot}
use Rattle.channel_slots.specs.Stages as stages
use Rattle.channel_slots.specs.Slots.{Obeys, BeginsAt, is_idle, first_life}
use Rattle.channel_slots.proofs.SlotLemmas.{idle-now, life-now, answers, keeps-on, stays-idle}
use Rattle.channel_slots.proofs.SlotLemmas.{becomes-on, all-to-print}

module _ (settings : Settings) (time : ℕ) (slot : Slot) where
  -- a slot that isn't idle doesn't begin
  pub busy-refuses : is_idle slot ≡ false → (start : Start)
      → Obeys settings time (begin start) slot slot (Refused refusals.Busy)
  busy-refuses busy start = record {
    answers = λ xs commands now s. answers settings xs commands slot s (begin start) (Some _)
        (life-now settings xs commands slot s busy);
    stands = λ xs commands now s. keeps-on settings xs commands slot s busy (begin start)
        (λ life. refl);
    refused = λ _. refl;
    ready = λ held first early begun ready. ready;
    waits = λ before. before;
  }

  -- an idle one has nothing to print or to stop
  pub idle-refuses : is_idle slot ≡ true → (w : Request)
      → ((xs : List Sample) → refused 10 ≡ answer_with settings xs None w)
      → ((last : Option Life) (n : ℕ) → life_with last None n w ≡ last)
      → Obeys settings time w slot slot (Refused refusals.Idle)
  idle-refuses idle w nothing same = record {
    answers = λ xs commands now s. nothing xs ∙ answers settings xs commands slot s w None
        (idle-now settings xs commands slot s idle);
    stands = λ xs commands now s. stays-idle settings xs commands slot s idle w
        (same _ (length xs));
    refused = λ _. refl;
    ready = λ held first early begun ready. ready;
    waits = λ before. before;
  }

  -- it begins with a stage
  pub begins : is_idle slot ≡ true → (start : Start) (new : Slot) → new.unprinted ≡ 0
      → BeginsAt settings time start new.stage → Obeys settings time (begin start) slot new Accepted
  begins idle start new none b = record {
    answers = λ xs commands now s. answers settings xs commands slot s (begin start) None
        (idle-now settings xs commands slot s idle);
    stands = λ xs commands now s.
        let follows : stages.Follows settings xs (first_life (length xs) start) new.stage =
        rw now (b.follows xs now) in
        becomes-on settings xs commands slot s (begin start) _ None _ new refl
        (idle-now settings xs commands slot s idle) refl follows
        (λ on. all-to-print settings xs _ new.stage new.unprinted follows on refl none)
        (omega arith);
    refused = λ refusal. absurd refusal;
    ready = λ held first early begun ready. b.ready held first early begun;
    waits = λ before. b.waits;
  }
