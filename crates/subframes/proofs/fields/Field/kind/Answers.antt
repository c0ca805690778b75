use Rattle.std.proofs.Common.{refl}
use Rattle.subframes.proofs.fields.Field.kind.Goals as goal

pub returns-in-Eph3 : goal.returns-in-Eph3
returns-in-Eph3 c = rw c.in-Eph3.is refl
