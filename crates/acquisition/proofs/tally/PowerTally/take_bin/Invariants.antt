use Rattle.std.proofs.Common.{◌≡◌, ◌<◌, ◌+◌, ℕ, get_or}
use Rattle.acquisition.specs.Tallies.{Tallies}
use Rattle.acquisition.specs.declared.plan.TheConstants.{BIN_CELLS}
use Rattle.acquisition.proofs.tally.PowerTally.take_bin.Given as goal

abbrev pub invariant-loop-i : goal.invariant-loop-i
invariant-loop-i l = record {
  done : l.self.done ≡ l.fn.self.done + l.i;
  tallies : (powers : ℕ → ℕ) → ((i : ℕ) → i < BIN_CELLS
      → powers (l.fn.self.done + i) ≡ get_or l.bin.powers i 0)
      → Tallies powers l.fn.self → Tallies powers l.self;
}
