-- What the sums of a period stand for.
use Rattle.std.specs.Prelude.{◌≡◌, ◌<◌, ◌+◌, ℕ, true, List, slice_index}
use Rattle.definitions.specs.Samples.{Sample}
use Rattle.definitions.specs.Correlation.{replica_of}
use Rattle.definitions.specs.Acquisition.{power_over}
use Rattle.acquisition.specs.FoldStates.{IsFold, IsSmall, IsWhole}
use Rattle.acquisition.specs.Replicas.{phases}
use Rattle.acquisition.specs.FoldRings.{AreRingsOf}
use Rattle.acquisition.specs.declared.fold.Fold.{Fold}
use Rattle.acquisition.specs.declared.ones.Ones.{Ones}
use Rattle.acquisition.specs.declared.period_sums.PeriodSums.{PeriodSums}

-- those over n samples from offset `from` on: there is a fold of the samples whose rings and whole
-- they are
pub record AreSumsOf (x : ℕ → Sample) (step carrier_step from n : ℕ) (sums : PeriodSums) : Type 0
  where
    pub fold : Fold
    pub is_fold : IsFold x step carrier_step from n fold
    pub whole : IsWhole sums.whole fold
    pub small : sums.is_small ≡ true → IsSmall fold
    pub rings : AreRingsOf fold sums.is_small sums.first.one.chips sums.second.one.chips

-- the powers of so many cells over the period, whose codes begin at a half chip and at those after
-- it: for any samples of which these are the sums
abbrev pub ArePowersOf : PeriodSums → Ones → ℕ → ℕ → List ℕ → Type 0
ArePowersOf sums ones half cells powers = (x : ℕ → Sample) (step carrier_step from n : ℕ)
    → AreSumsOf x step carrier_step from n sums → (l : ℕ) → l < cells
    → slice_index powers l ≡ power_over x
    (replica_of ones.prn (phases (half + l) step carrier_step)) from (from + n)
