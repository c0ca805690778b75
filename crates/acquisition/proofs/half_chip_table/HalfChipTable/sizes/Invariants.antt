use Rattle.std.proofs.Common.{◌≡◌}
use Rattle.acquisition.specs.Folds.{sizes_to}
use Rattle.acquisition.proofs.half_chip_table.HalfChipTable.sizes.Given as goal

abbrev pub invariant-loop-k : goal.invariant-loop-k
invariant-loop-k l = l.sizes ≡ sizes_to l.self.sums l.k
