use Rattle.std.proofs.Common.{◌≡◌, ◌≤◌, ◌<◌, ◌+◌, ◌-◌, ◌*◌, ℕ}
use Rattle.definitions.specs.Samples.{Sample}
use Rattle.acquisition.specs.Powers.{AreSoFar}
use Rattle.acquisition.proofs.bin_powers.BinPowers.advance.Given as goal

abbrev pub invariant-loop-self : goal.invariant-loop-self
invariant-loop-self g l = record {
  most : l.self.added ≤ l.to;
  powers : (x : ℕ → Sample) → ((j : ℕ) → j < l.dwell.periods * l.dwell.per_period
      → g.S.SampleSource.held l.source (l.dwell.start + j) ≡ x j)
      → AreSoFar x l.ones.prn l.dwell.per_period l.steps l.fn.self
      → AreSoFar x l.ones.prn l.dwell.per_period l.steps l.self;
}

abbrev pub decreases-loop-self : goal.decreases-loop-self
decreases-loop-self g l = l.to - l.self.added
