use Rattle.definitions.proofs.FoundLemmas.{code-goes-on}
use Rattle.definitions.proofs.slots.found_code_goes_on.Goals as goal

pub returns : goal.returns
returns c = code-goes-on
