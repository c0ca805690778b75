use Rattle.std.proofs.Common.{rules}
use Rattle.frame_sync.proofs.subframe.Subframe.tow.Goals as goal

pub returns-clause-tow : goal.returns-clause-tow
returns-clause-tow c = search rules
