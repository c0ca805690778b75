use Rattle.definitions.proofs.GreatestLemmas.{named-greatest}
use Rattle.definitions.proofs.named_cell_is_greatest.Goals as goal

pub returns : goal.returns
returns c = named-greatest
