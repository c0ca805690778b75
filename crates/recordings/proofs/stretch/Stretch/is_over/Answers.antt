use Rattle.std.proofs.Common.{rules}
use Rattle.recordings.proofs.stretch.Stretch.is_over.Goals as goal

pub returns : goal.returns
returns c = search rules
