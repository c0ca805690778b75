use Rattle.std.proofs.Common.{rules}
use Rattle.packer.proofs.program.tell.Goals as goal

pub returns : goal.returns
returns c = search rules
