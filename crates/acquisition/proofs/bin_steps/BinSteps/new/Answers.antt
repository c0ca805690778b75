use Rattle.std.proofs.Common.{ℕ, refl, arith}
use Rattle.std.proofs.lemmas.List.{get_or-replicate}
use Rattle.oscillators.specs.declared.settings.TheConstants.{LEAST_CODE_STEP}
use Rattle.acquisition.proofs.bin_steps.BinSteps.new.Goals as goal

pub loop-k-init : goal.loop-k-init
loop-k-init c = record {
  code_len = refl;
  carrier_len = refl;
  moving = λ k h. rw (get_or-replicate {A = ℕ} 81 k LEAST_CODE_STEP 0 h) (omega arith);
  code = λ k h. absurd (omega (arith, h));
  carrier = λ k h. absurd (omega (arith, h));
}
