use Rattle.std.proofs.Common.{refl}
use Rattle.acquisition.proofs.ones.Ones.count.Goals as goal

pub returns-clause-value : goal.returns-clause-value
returns-clause-value c = rw (c.len.ensures.value, c.len-2.ensures.value) refl
