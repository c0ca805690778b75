use Rattle.std.proofs.Common.{refl}
use Rattle.channels.proofs.dump.Dump.plain.Goals as goal

pub returns : goal.returns
returns c = refl
