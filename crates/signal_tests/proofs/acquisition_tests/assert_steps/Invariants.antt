use Rattle.std.proofs.Common.{◌≡◌}
use Rattle.acquisition.specs.Searches.{start_of, end_of}
use Rattle.signal_tests.proofs.acquisition_tests.assert_steps.Given as goal

abbrev pub invariant-loop-cells : goal.invariant-loop-cells
invariant-loop-cells g l = record {
  start : start_of l.search ≡ start_of l.fn.search;
  end : end_of l.search ≡ end_of l.fn.search;
}
