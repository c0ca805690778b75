use Rattle.definitions.proofs.SizeLemmas.{by-bins}
use Rattle.definitions.proofs.sizes.cells_go_by_bins.Goals as goal

pub returns : goal.returns
returns c = by-bins
