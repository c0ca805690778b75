use Rattle.std.proofs.Common.{rules}
use Rattle.printed_lines.proofs.answers.put_followed.Goals as goal

pub returns-clause-text : goal.returns-clause-text
returns-clause-text c = search rules
