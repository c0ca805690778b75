-- How large the sums of an open segment are.
use Rattle.std.specs.Prelude.{ℕ, ◌≤◌, ◌*◌, unsigned_abs}
use Rattle.lane_correlator.specs.declared.counts.Counts.{Counts}
use Rattle.oscillators.specs.declared.carrier.TheConstants.{MOST_PRODUCT}

-- sums of so many samples as bring the code to a phase: each sample adds `MOST_PRODUCT` at most and
-- moves the code by a step
pub record GrowWith (c : Counts) (step phase : ℕ) : Type 0 where
  pub ie : unsigned_abs c.ie * step ≤ MOST_PRODUCT * phase
  pub qe : unsigned_abs c.qe * step ≤ MOST_PRODUCT * phase
  pub ip : unsigned_abs c.ip * step ≤ MOST_PRODUCT * phase
  pub qp : unsigned_abs c.qp * step ≤ MOST_PRODUCT * phase
  pub il : unsigned_abs c.il * step ≤ MOST_PRODUCT * phase
  pub ql : unsigned_abs c.ql * step ≤ MOST_PRODUCT * phase
