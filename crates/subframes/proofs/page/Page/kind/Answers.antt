use Rattle.std.proofs.Common.{refl}
use Rattle.subframes.proofs.page.Page.kind.Goals as goal

pub returns-in-Eph2 : goal.returns-in-Eph2
returns-in-Eph2 c = rw c.in-Eph2.is refl
