use Rattle.std.proofs.Common.{ℕ, arith, refl}
use Rattle.std.proofs.lemmas.List.{get_or-replicate}
use Rattle.sample_planes.proofs.part.Part.new.Goals as goal

pub invariant_of-result : goal.invariant_of-result
invariant_of-result c = record {
  few = λ k h. rw (get_or-replicate {A = ℕ} 1024 k 0 0 h) (omega arith);
  fourth = λ k h. rw (get_or-replicate {A = ℕ} 1024 k 0 0 h) refl;
}
