use Rattle.std.proofs.Common.{rules}
use Rattle.receiver_cli.proofs.program.tell.Goals as goal

pub returns : goal.returns
returns c = search rules
