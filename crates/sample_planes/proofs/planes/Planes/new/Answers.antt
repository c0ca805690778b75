use Rattle.std.proofs.Common.{refl, arith}
use Rattle.sample_planes.specs.Signs.{AreOneBit}
use Rattle.sample_planes.proofs.planes.Planes.new.Goals as goal

pub invariant_of-result : goal.invariant_of-result
unfolding AreOneBit
invariant_of-result c = (omega arith, λ none i inside. absurd (omega (arith, inside)))

pub returns : goal.returns
returns c = refl
