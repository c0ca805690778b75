use Rattle.std.proofs.Common.{rules}
use Rattle.frame_sync.proofs.subframe.Subframe.id.Goals as goal

pub returns-clause-id : goal.returns-clause-id
returns-clause-id c = search rules
