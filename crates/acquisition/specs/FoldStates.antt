-- What a fold stands for.
use Rattle.std.specs.Prelude.{◌≡◌, ◌≤◌, ◌<◌, ◌+◌, ◌*◌, ℕ, List, length}
use Rattle.definitions.specs.Samples.{Sample, sample_at}
use Rattle.definitions.specs.Oscillators.{code_phase_after, carrier_phase_after}
use Rattle.oscillators.specs.Views.{Oscillation}
use Rattle.oscillators.specs.declared.carrier.TheConstants.{MOST_PRODUCT}
use Rattle.oscillators.specs.declared.settings.TheConstants.{MOST_PER_MS}
use Rattle.lane_correlator.specs.SampleProducts.{in_phase_of, quadrature_of}
use Rattle.lane_correlator.specs.declared.products.Products.{Products}
use Rattle.acquisition.specs.Folds.{IsTable, in_phase_at, quadrature_at, total_to}
use Rattle.acquisition.specs.Folds.{sizes_to}
use Rattle.acquisition.specs.declared.half_chip_table.TheConstants.{HALF_CHIPS}
use Rattle.acquisition.specs.declared.fold.Fold.{Fold}
use Rattle.acquisition.specs.declared.fold.TheConstants.{MOST_SMALL}
use Rattle.acquisition.specs.declared.sums.Sums.{Sums}
use Rattle.acquisition.specs.declared.sums.TheConstants.{MOST_PERIOD_SUM}

-- of n samples from offset `from` on
pub record IsFold (x : ℕ → Sample) (step carrier_step from n : ℕ) (fold : Fold) : Type 0 where
  pub in_phase : IsTable (in_phase_at x carrier_step) step from n fold.in_phase.sums
  pub quadrature : IsTable (quadrature_at x carrier_step) step from n fold.quadrature.sums

-- the first n products are those of the samples from one on
pub record AreWiped (x : ℕ → Sample) (carrier_step from n : ℕ) (products : Products) : Type 0
  where
    pub in_phase : (j : ℕ) → j < n
        → in_phase_of products j ≡ in_phase_at x carrier_step (from + j)
    pub quadrature : (j : ℕ) → j < n
        → quadrature_of products j ≡ quadrature_at x carrier_step (from + j)

-- the sums of all entries of a fold
pub record IsWhole (sums : Sums) (fold : Fold) : Type 0 where
  pub in_phase : sums.in_phase ≡ total_to fold.in_phase.sums HALF_CHIPS
  pub quadrature : sums.quadrature ≡ total_to fold.quadrature.sums HALF_CHIPS

-- half of each sum of its entries, whatever their signs, fits in 16 bits
pub record IsSmall (fold : Fold) : Type 0 where
  pub in_phase : sizes_to fold.in_phase.sums HALF_CHIPS ≤ MOST_SMALL
  pub quadrature : sizes_to fold.quadrature.sums HALF_CHIPS ≤ MOST_SMALL

-- n samples more leave the sizes of its entries within those over a period
pub record HasRoom (n : ℕ) (fold : Fold) : Type 0 where
  pub in_phase : sizes_to fold.in_phase.sums HALF_CHIPS + MOST_PRODUCT * n ≤ MOST_PERIOD_SUM
  pub quadrature : sizes_to fold.quadrature.sums HALF_CHIPS + MOST_PRODUCT * n ≤ MOST_PERIOD_SUM

-- of no samples, with room for those of a period
pub record IsNew (f : Fold) : Type 0 where
  pub none : (x : ℕ → Sample) (step carrier_step from : ℕ) → IsFold x step carrier_step from 0 f
  pub room : HasRoom MOST_PER_MS f

-- a code and a carrier, which began at phase 0, are at a sample
pub record AreAt (at code step : ℕ) (carrier : Oscillation) : Type 0 where
  pub code_is : code ≡ code_phase_after 0 step at
  pub carrier_is : carrier.phase ≡ carrier_phase_after 0 carrier.step at

-- those that are held from one on are those of x from offset `from` on
abbrev pub AreHeld : (ℕ → Sample) → ℕ → (ℕ → Sample) → ℕ → ℕ → Type 0
AreHeld held first x from len = (j : ℕ) → j < len → held (first + j) ≡ x (from + j)

-- samples are added to whatever a fold is of, for a code and a carrier that are at the first of
-- them
pub record TakesRun (code step : ℕ) (carrier : Oscillation) (samples : List Sample)
    (old new : Fold) : Type 0 where
  pub fold : (x : ℕ → Sample) (from n : ℕ) → IsFold x step carrier.step from n old
      → AreAt (from + n) code step carrier
      → ((j : ℕ) → j < length samples → sample_at samples j ≡ x (from + n + j))
      → IsFold x step carrier.step from (n + length samples) new
  pub room : (n : ℕ) → HasRoom (length samples + n) old → HasRoom n new
