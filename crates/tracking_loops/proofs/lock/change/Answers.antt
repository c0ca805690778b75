use Rattle.std.proofs.Common.{refl}
use Rattle.tracking_loops.proofs.lock.change.Goals as goal

pub returns-in-false-true : goal.returns-in-false-true
returns-in-false-true c = rw (c.in-false-true.is-0, c.in-false-true.is-1) refl
