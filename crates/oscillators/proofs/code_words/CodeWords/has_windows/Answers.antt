use Rattle.std.proofs.Common.{rules}
use Rattle.oscillators.proofs.code_words.CodeWords.has_windows.Goals as goal

pub returns : goal.returns
returns c = search rules
