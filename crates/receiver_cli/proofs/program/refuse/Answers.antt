use Rattle.std.proofs.Common.{rules}
use Rattle.receiver_cli.proofs.program.refuse.Goals as goal

pub returns-in_default : goal.returns-in_default
returns-in_default c = search rules

pub returns-in-DisplayHelp-clause-status : goal.returns-in-DisplayHelp-clause-status
returns-in-DisplayHelp-clause-status c = search rules

pub returns-in-OutOfMemory-clause-status : goal.returns-in-OutOfMemory-clause-status
returns-in-OutOfMemory-clause-status c = search rules
