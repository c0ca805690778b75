-- The prompt sums of a cell, from the table of a fold.
use Rattle.std.proofs.Common.{◌≡◌, ℕ, ◌+◌, ◌-◌, ◌*◌, ◌/◌, ◌^◌, ◌<◌, ◌≤◌, sym, ap}
use Rattle.std.proofs.Common.{◌∙◌, arith, to_z, of_z, w32, refl, FitsSigned}
use Rattle.std.specs.Prelude.{ℤ, pos, ◌+ℤ◌, ◌*ℤ◌, List, get_or, unsigned_abs}
use Rattle.std.proofs.lemmas.Int.{to_z-of_z, fits_signed_from_abs}
use Rattle.definitions.specs.Sums.{total}
use Rattle.definitions.proofs.SumsLemmas.{total-same}
use Rattle.definitions.specs.Samples.{Sample}
use Rattle.definitions.specs.Codes.{chip_sign}
use Rattle.definitions.specs.Oscillators.{prompt_sign, code_phase_after}
use Rattle.definitions.specs.Correlation.{replica_of, in_phase_sum, quadrature_sum}
use Rattle.definitions.specs.Acquisition.{square, power_over}
use Rattle.acquisition.specs.declared.sums.TheConstants.{MOST_PERIOD_SUM}
use Rattle.acquisition.specs.declared.half_chip_table.TheConstants.{HALF_CHIPS}
use Rattle.acquisition.specs.declared.fold.Fold.{Fold}
use Rattle.acquisition.specs.FoldStates.{IsFold}
use Rattle.acquisition.specs.Replicas.{phases}
use Rattle.acquisition.specs.Folds.{sum_at_key, half_chip_at, in_phase_at, quadrature_at, IsTable}
use Rattle.acquisition.specs.Folds.{correlation, correlation_to}
use Rattle.acquisition.proofs.PlaceLemmas.{chip_of_place, place_below}
use Rattle.acquisition.proofs.RegroupedLemmas.{regrouped}
use Rattle.acquisition.proofs.SizeLemmas.{abs_add}

-- values times the prompt chips from an offset on, n of them, from a table of the values
from_table : (y : ℕ → ℤ) (prn half step from n : ℕ) (table : List ℤ)
    → IsTable y step from n table
    → total (λ i. y (from + i)
    *ℤ prompt_sign prn (code_phase_after (half * 2 ^ 31) step (from + i))) n
    ≡ correlation prn half table
unfolding correlation_to
from_table y prn half step from n table is =
    total-same
    (λ i. y (from + i) *ℤ prompt_sign prn (code_phase_after (half * 2 ^ 31) step (from + i)))
    (λ i. y (from + i) *ℤ chip_sign prn ((half + half_chip_at step (from + i)) / 2)) n
    (λ i h. ap (λ (s : ℤ). y (from + i) *ℤ s) (chip_of_place prn half step (from + i)))
    ∙ regrouped (λ i. y (from + i)) (λ i. half_chip_at step (from + i))
    (λ k. chip_sign prn ((half + k) / 2)) n HALF_CHIPS (λ i h. place_below step (from + i))
    ∙ total-same
    (λ k. sum_at_key (λ i. y (from + i)) (λ i. half_chip_at step (from + i)) n k
    *ℤ chip_sign prn ((half + k) / 2))
    (λ k. get_or table k (pos 0) *ℤ chip_sign prn ((half + k) / 2)) HALF_CHIPS
    (λ k h. ap (λ (v : ℤ). v *ℤ chip_sign prn ((half + k) / 2)) (sym (is k h)))

-- the power of a cell from its correlations with a fold
pub fold_power : (x : ℕ → Sample) (prn half step carrier_step from n : ℕ) (fold : Fold)
    (in_phase quadrature : ℤ) → IsFold x step carrier_step from n fold
    → in_phase ≡ correlation prn half fold.in_phase.sums
    → quadrature ≡ correlation prn half fold.quadrature.sums
    → square in_phase + square quadrature
    ≡ power_over x (replica_of prn (phases half step carrier_step)) from (from + n)
unfolding in_phase_sum quadrature_sum
fold_power x prn half step carrier_step from n fold in_phase quadrature is i q =
    let long : from + n - from ≡ n = omega arith in
    rw (
      i ∙ sym (from_table (in_phase_at x carrier_step) prn half step from n fold.in_phase.sums
          is.in_phase),
      q ∙ sym (from_table (quadrature_at x carrier_step) prn half step from n
          fold.quadrature.sums is.quadrature),
      long,
    ) refl

-- a sum in 32 bits with one more term
pub record IsKept (sum term : ℤ) (k : ℕ) : Type 0 where
  pub fits : FitsSigned w32 (sum +ℤ to_z w32 (of_z w32 term))
  pub value : to_z w32 (of_z w32 (sum +ℤ to_z w32 (of_z w32 term))) ≡ sum +ℤ term
  pub small : unsigned_abs (to_z w32 (of_z w32 (sum +ℤ to_z w32 (of_z w32 term))))
      ≤ MOST_PERIOD_SUM * (k + 1)

pub entry_in_32 : (z : ℤ) → unsigned_abs z ≤ MOST_PERIOD_SUM → to_z w32 (of_z w32 z) ≡ z
entry_in_32 z small = to_z-of_z w32 z (fits_signed_from_abs w32 z (omega (arith, small)))

pub sum-kept : (sum term : ℤ) (k : ℕ) → unsigned_abs sum ≤ MOST_PERIOD_SUM * k
    → unsigned_abs term ≤ MOST_PERIOD_SUM → k < HALF_CHIPS → IsKept sum term k
sum-kept sum term k before small h =
    let more : unsigned_abs (sum +ℤ term) ≤ MOST_PERIOD_SUM * (k + 1) =
    omega (arith, abs_add sum term, before, small) in
    let fits : FitsSigned w32 (sum +ℤ term) = fits_signed_from_abs w32 (sum +ℤ term)
    (omega (arith, more, h)) in
    let term_kept : to_z w32 (of_z w32 term) ≡ term = entry_in_32 term small in
    let kept : to_z w32 (of_z w32 (sum +ℤ term)) ≡ sum +ℤ term = to_z-of_z w32 (sum +ℤ term) fits in
    record {
      fits = rw term_kept fits;
      value = rw term_kept kept;
      small = rw (term_kept, kept) more;
    }
