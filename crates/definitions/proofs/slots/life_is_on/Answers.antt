use Rattle.definitions.proofs.OnLemmas.{life-on}
use Rattle.definitions.proofs.slots.life_is_on.Goals as goal

pub returns : goal.returns
returns c = life-on
