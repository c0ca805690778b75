use Rattle.std.proofs.Common.{ℕ, refl, arith}
use Rattle.std.proofs.lemmas.List.{get_or-replicate}
use Rattle.lane_correlator.proofs.lane_sums.LaneSums.none.Goals as goal

pub invariant_of-result : goal.invariant_of-result
invariant_of-result c = record {
  lanes = (refl, refl);
  bytes_i = λ k h. rw (get_or-replicate {A = ℕ} 32 k 0 0 h) (omega arith);
  bytes_q = λ k h. rw (get_or-replicate {A = ℕ} 32 k 0 0 h) (omega arith);
}

pub returns : goal.returns
returns c = record {
  in_phase = λ k h. get_or-replicate {A = ℕ} 32 k 0 0 h;
  quadrature = λ k h. get_or-replicate {A = ℕ} 32 k 0 0 h;
}
