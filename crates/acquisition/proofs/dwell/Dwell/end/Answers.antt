use Rattle.std.proofs.Common.{refl}
use Rattle.acquisition.proofs.dwell.Dwell.end.Goals as goal

pub returns-clause-value : goal.returns-clause-value
returns-clause-value c = rw (c.from.ensures, c.from-2.ensures) refl
