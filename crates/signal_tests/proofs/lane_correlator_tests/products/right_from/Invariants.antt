use Rattle.std.proofs.Common.{◌≤◌}
use Rattle.signal_tests.proofs.lane_correlator_tests.products.right_from.Given as goal

abbrev pub invariant-loop-j : goal.invariant-loop-j
invariant-loop-j l = l.first ≤ l.j
