-- Where the oscillators of a replica stand.
use Rattle.std.proofs.Common.{◌≡◌, ℕ, ◌+◌, ◌-◌, ◌*◌, ◌≤◌, ◌∙◌, ap, refl, arith}
use Rattle.std.proofs.Common.{List, inl, inr}
use Rattle.definitions.specs.Samples.{Sample}
use Rattle.definitions.specs.Correlation.{Phases}
use Rattle.definitions.specs.Oscillators.{carrier_phase_after, code_phase_after}
use Rattle.oscillators.specs.Views.{Oscillation}
use Rattle.lane_correlator.specs.ReplicaWords.{StandAt, phases_of, HaveRoom}
use Rattle.lane_correlator.proofs.ReplicaLemmas.{carrier_word_on, code_word_on}

-- at the beginning
pub stand_first : (carrier code : Oscillation) (first : ℕ)
    → StandAt (phases_of carrier code) first first carrier code
stand_first carrier code first =
    let none : (j : ℕ) → j ≡ 64 * (first - first) + j = λ j. omega arith in
    record {
      carrier_is = λ j. ap (carrier_phase_after carrier.phase carrier.step) (none j);
      carrier_step_is = refl;
      code_is = λ j. ap (code_phase_after code.phase code.step) (none j);
      code_step_is = refl;
    }

-- and a word on
pub stand_on : (p : Phases) (first w : ℕ) (carrier code carrier1 code1 : Oscillation) → first ≤ w
    → StandAt p first w carrier code
    → carrier1 ≡ record {
      phase = carrier_phase_after carrier.phase carrier.step 64;
      step = carrier.step;
    }
    → code1 ≡ record { phase = code_phase_after code.phase code.step 64; step = code.step }
    → StandAt p first (w + 1) carrier1 code1
stand_on p first w carrier code carrier1 code1 h at on_carrier on_code = record {
  carrier_is = carrier_word_on p.carrier p.carrier_step first w carrier.phase carrier1.phase h
      (ap (λ (o : Oscillation). o.phase) on_carrier
      ∙ ap (λ (s : ℕ). carrier_phase_after carrier.phase s 64) at.carrier_step_is) at.carrier_is;
  carrier_step_is = ap (λ (o : Oscillation). o.step) on_carrier ∙ at.carrier_step_is;
  code_is = code_word_on p.code p.code_step first w code.phase code1.phase h
      (ap (λ (o : Oscillation). o.phase) on_code
      ∙ ap (λ (s : ℕ). code_phase_after code.phase s 64) at.code_step_is) at.code_is;
  code_step_is = ap (λ (o : Oscillation). o.step) on_code ∙ at.code_step_is;
}

-- fewer words have room too
pub fewer_words : (xs : List Sample) (a b : ℕ) → a ≤ b → HaveRoom xs b → HaveRoom xs a
fewer_words xs a b h room = elim room [
  | inl one ↦ inl (omega (arith, h, one.0), one.1)
  | inr few ↦ inr (omega (arith, h, few))
]
