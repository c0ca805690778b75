use Rattle.std.proofs.Common.{refl}
use Rattle.sample_planes.proofs.format.Format.named.Goals as goal

pub returns-in-real2 : goal.returns-in-real2
returns-in-real2 c = rw c.in-real2.is refl

pub returns-in-iq2 : goal.returns-in-iq2
returns-in-iq2 c = rw c.in-iq2.is refl
