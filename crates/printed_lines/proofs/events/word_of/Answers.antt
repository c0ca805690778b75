use Rattle.std.proofs.Common.{rules}
use Rattle.printed_lines.proofs.events.word_of.Goals as goal

pub returns-else-found-clause-word : goal.returns-else-found-clause-word
returns-else-found-clause-word c = search rules
