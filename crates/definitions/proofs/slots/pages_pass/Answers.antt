use Rattle.definitions.proofs.PageLemmas.{pages-pass}
use Rattle.definitions.proofs.slots.pages_pass.Goals as goal

pub returns : goal.returns
returns c = pages-pass
