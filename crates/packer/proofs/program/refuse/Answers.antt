use Rattle.std.proofs.Common.{rules}
use Rattle.packer.proofs.program.refuse.Goals as goal

pub returns : goal.returns
returns c = search rules
