use Rattle.std.proofs.Common.{rules}
use Rattle.frame_sync.proofs.sync.gap_between.Goals as goal

pub returns-else-place-start : goal.returns-else-place-start
returns-else-place-start c = search rules
