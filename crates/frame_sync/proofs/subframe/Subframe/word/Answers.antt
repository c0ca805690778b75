use Rattle.std.proofs.Common.{rules}
use Rattle.frame_sync.proofs.subframe.Subframe.word.Goals as goal

pub returns-clause-word : goal.returns-clause-word
returns-clause-word c = search rules
