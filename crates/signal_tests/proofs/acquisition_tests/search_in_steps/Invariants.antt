use Rattle.std.proofs.Common.{◌≡◌}
use Rattle.acquisition.specs.Searches.{start_of, end_of}
use Rattle.signal_tests.proofs.acquisition_tests.search_in_steps.Given as goal

abbrev pub invariant-loop : goal.invariant-loop
invariant-loop l = record {
  start : start_of l.search ≡ start_of l.fn.search;
  end : end_of l.search ≡ end_of l.fn.search;
}
