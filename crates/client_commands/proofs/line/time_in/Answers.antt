use Rattle.std.proofs.Common.{rules}
use Rattle.client_commands.proofs.line.time_in.Goals as goal

pub returns : goal.returns
returns c = search rules
