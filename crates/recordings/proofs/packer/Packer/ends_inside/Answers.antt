use Rattle.std.proofs.Common.{rules}
use Rattle.recordings.proofs.packer.Packer.ends_inside.Goals as goal

pub returns : goal.returns
returns c = search rules
