use Rattle.std.proofs.Common.{rules}
use Rattle.recordings.proofs.packer.Packer.samples_held.Goals as goal

pub returns : goal.returns
returns c = search rules
