use Rattle.std.proofs.Common.{rules}
use Rattle.seldomplough.proofs.packing.Packing.packed.Goals as goal

pub returns : goal.returns
returns c = search rules
