use Rattle.std.proofs.Common.{refl}
use Rattle.sample_planes.proofs.format.Format.has_quadrature.Goals as goal

pub returns-in-Iq1 : goal.returns-in-Iq1
returns-in-Iq1 c = rw c.in-Iq1.is refl
