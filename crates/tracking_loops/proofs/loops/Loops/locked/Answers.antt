use Rattle.tracking_loops.specs.Standing.{StandsFor}
use Rattle.tracking_loops.proofs.loops.Loops.locked.Goals as goal

pub returns : goal.returns
unfolding StandsFor
returns c start dumps h = h.lock.locked
