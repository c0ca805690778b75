use Rattle.std.proofs.Common.{rules}
use Rattle.client_commands.proofs.words.Words.slot.Goals as goal

pub returns-in_err-number-clause-value : goal.returns-in_err-number-clause-value
returns-in_err-number-clause-value c = search rules
