use Rattle.definitions.proofs.SizeLemmas.{all-counted}
use Rattle.definitions.proofs.sizes.states_count_all_dumps.Goals as goal

pub returns : goal.returns
returns c = all-counted
