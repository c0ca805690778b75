use Rattle.std.proofs.Common.{refl}
use Rattle.tracking_loops.specs.Standing.{StandsFor, dump_count}
use Rattle.tracking_loops.proofs.loops.Loops.dumps.Goals as goal

pub returns-clause-is : goal.returns-clause-is
unfolding StandsFor
returns-clause-is c start dumps h = h.taken

pub returns-clause-counted : goal.returns-clause-counted
unfolding dump_count
returns-clause-counted c = refl
