-- The six sums over a range of a run.
use Rattle.std.specs.Prelude.{◌≡◌, ℕ, ◌-◌, ◌*◌, min, max}
use Rattle.definitions.specs.Samples.{Sample}
use Rattle.definitions.specs.Correlation.{Counts, Replica, six_sums}
use Rattle.lane_correlator.specs.Counting.{AreWithin}

-- they are those of the samples from .. to - 1, and not great
pub record HasSumsOf (x : ℕ → Sample) (r : Replica) (from to : ℕ) (c : Counts) : Type 0 where
  pub sums : c ≡ six_sums x r from to
  pub small : AreWithin (9 * (to - from)) c

-- how far a range lies before word w
abbrev pub cut : ℕ → ℕ → ℕ → ℕ
cut from to w = min to (max from (64 * w))
