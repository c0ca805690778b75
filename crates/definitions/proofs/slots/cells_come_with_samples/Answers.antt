use Rattle.definitions.proofs.CellLemmas.{cells-come}
use Rattle.definitions.proofs.slots.cells_come_with_samples.Goals as goal

pub returns : goal.returns
returns c = cells-come
