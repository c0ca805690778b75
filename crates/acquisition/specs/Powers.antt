-- What the powers of a bin's cells stand for.
use Rattle.std.specs.Prelude.{◌≡◌, ◌<◌, ◌*◌, ◌/◌, ◌%◌, ℕ, get_or}
use Rattle.definitions.specs.Samples.{Sample}
use Rattle.definitions.specs.Correlation.{replica_of}
use Rattle.acquisition.specs.PeriodStates.{AreSumsOf}
use Rattle.acquisition.specs.Periods.{periods_of}
use Rattle.acquisition.specs.Replicas.{phases, power_of_periods}
use Rattle.acquisition.specs.declared.bin_powers.BinPowers.{BinPowers}
use Rattle.acquisition.specs.declared.bin_steps.Steps.{Steps}
use Rattle.acquisition.specs.declared.plan.TheConstants.{BIN_CELLS}

-- each is that of its cell over periods of so many samples, and the sums are those of the period
-- that is worked on
pub record AreSoFar (x : ℕ → Sample) (prn length_of_period : ℕ) (steps : Steps) (bin : BinPowers)
    : Type 0 where
  pub powers : (cell : ℕ) → cell < BIN_CELLS → get_or bin.powers cell 0 ≡ power_of_periods x
      (replica_of prn (phases cell steps.code steps.carrier)) length_of_period
      (periods_of cell bin.added)
  pub sums : 0 < bin.added % BIN_CELLS → AreSumsOf x steps.code steps.carrier
      (bin.added / BIN_CELLS * length_of_period) length_of_period bin.sums
