use Rattle.std.proofs.Common.{rules}
use Rattle.printed_lines.proofs.answers.word_of.Goals as goal

pub returns-in-Edged-clause-word : goal.returns-in-Edged-clause-word
returns-in-Edged-clause-word c = search rules
