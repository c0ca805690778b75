use Rattle.std.proofs.Common.{rules}
use Rattle.frame_sync.proofs.subframe.Subframe.from_words.Goals as goal

pub returns-else-has_header : goal.returns-else-has_header
returns-else-has_header c = search rules
