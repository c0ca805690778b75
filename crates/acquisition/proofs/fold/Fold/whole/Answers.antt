use Rattle.std.proofs.Common.{◌∙◌, ℕ, ℤ, sym, arith, to_z, w32}
use Rattle.acquisition.proofs.TableLemmas.{total_to-none, total_to-more}
use Rattle.acquisition.proofs.FoldLemmas.{sum-kept}
use Rattle.acquisition.proofs.fold.Fold.whole.Goals as goal

pub loop-k-init : goal.loop-k-init
loop-k-init c =
    let fold = c.args.self.now in
    record {
      in_phase = sym (total_to-none fold.in_phase.sums);
      quadrature = sym (total_to-none fold.quadrature.sums);
      small_in_phase = omega arith;
      small_quadrature = omega arith;
    }

pub loop-k-preserved : goal.loop-k-preserved
loop-k-preserved c =
    let fold = c.args.self.now in
    let here = c.loop-k.invariant in
    let k : ℕ = c.loop-k.k in
    let sum_i : ℤ = to_z w32 c.loop-k.in_phase-bits in
    let sum_q : ℤ = to_z w32 c.loop-k.quadrature-bits in
    let i = sum-kept sum_i c.sum-in_phase.result k here.small_in_phase
    c.sum-in_phase.ensures.small c.loop-k-test.true in
    let q = sum-kept sum_q c.sum-quadrature.result k here.small_quadrature
    c.sum-quadrature.ensures.small c.loop-k-test.true in
    record {
      in_phase = i.value
          ∙ rw (here.in_phase, c.sum-in_phase.ensures.value)
          (sym (total_to-more fold.in_phase.sums k));
      quadrature = q.value
          ∙ rw (here.quadrature, c.sum-quadrature.ensures.value)
          (sym (total_to-more fold.quadrature.sums k));
      small_in_phase = i.small;
      small_quadrature = q.small;
    }
