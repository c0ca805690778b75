use Rattle.std.proofs.Common.{rules}
use Rattle.acquisition.proofs.chip_ring.ChipRing.with_next.Goals as goal

pub returns : goal.returns
returns c = search rules
