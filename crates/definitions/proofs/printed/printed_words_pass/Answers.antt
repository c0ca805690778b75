use Rattle.definitions.proofs.PrintedVerbLemmas.{words-printed}
use Rattle.definitions.proofs.printed.printed_words_pass.Goals as goal

pub returns : goal.returns
returns c = words-printed
