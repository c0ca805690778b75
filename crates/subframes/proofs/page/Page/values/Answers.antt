use Rattle.std.proofs.Common.{refl}
use Rattle.subframes.proofs.page.Page.values.Goals as goal

pub returns-in-Eph3-clause-numbers : goal.returns-in-Eph3-clause-numbers
returns-in-Eph3-clause-numbers c = rw c.in-Eph3.is refl
