use Rattle.std.proofs.Common.{rules}
use Rattle.recordings.proofs.stretch.Stretch.new.Goals as goal

pub returns : goal.returns
returns c = search rules
