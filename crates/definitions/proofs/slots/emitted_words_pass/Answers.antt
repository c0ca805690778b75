use Rattle.definitions.proofs.EventLemmas.{words-pass}
use Rattle.definitions.proofs.slots.emitted_words_pass.Goals as goal

pub returns : goal.returns
returns c = words-pass
