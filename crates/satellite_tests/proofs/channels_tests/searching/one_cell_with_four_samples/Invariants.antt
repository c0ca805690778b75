use Rattle.std.proofs.Common.{◌≡◌}
use Rattle.channels.specs.Searching.{start_of, due_of}
use Rattle.satellite_tests.proofs.channels_tests.searching.one_cell_with_four_samples.Given as goal

abbrev pub invariant-loop-to : goal.invariant-loop-to
invariant-loop-to g l =
    (start_of l.search ≡ 2) × (due_of l.search ≡ 10232)
