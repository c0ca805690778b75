use Rattle.std.proofs.Common.{◌≡◌, ◌≤◌, ◌*◌, unsigned_abs}
use Rattle.acquisition.specs.Folds.{total_to}
use Rattle.acquisition.proofs.fold.Fold.whole.Given as goal

abbrev pub invariant-loop-k : goal.invariant-loop-k
invariant-loop-k l = record {
  in_phase : l.in_phase ≡ total_to l.self.in_phase.sums l.k;
  quadrature : l.quadrature ≡ total_to l.self.quadrature.sums l.k;
  small_in_phase : unsigned_abs l.in_phase ≤ 180000 * l.k;
  small_quadrature : unsigned_abs l.quadrature ≤ 180000 * l.k;
}
