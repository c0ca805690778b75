use Rattle.definitions.proofs.SizeLemmas.{next-printed}
use Rattle.definitions.proofs.sizes.next_dumps_are_printed.Goals as goal

pub returns : goal.returns
returns c = next-printed
