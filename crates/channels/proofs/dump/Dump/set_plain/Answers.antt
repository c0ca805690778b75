use Rattle.std.proofs.Common.{refl}
use Rattle.channels.proofs.dump.Dump.set_plain.Goals as goal

pub returns : goal.returns
returns c = rw c.clear.ensures refl
