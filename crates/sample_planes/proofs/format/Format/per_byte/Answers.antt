use Rattle.std.proofs.Common.{refl}
use Rattle.sample_planes.proofs.format.Format.per_byte.Goals as goal

pub returns-in-Real2 : goal.returns-in-Real2
returns-in-Real2 c = rw c.in-Real2.is refl
