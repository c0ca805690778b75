use Rattle.std.proofs.Common.{refl}
use Rattle.recordings.proofs.packer.Packer.kind.Goals as goal

pub returns : goal.returns
returns c = refl
