use Rattle.std.proofs.Common.{rules}
use Rattle.acquisition.proofs.chip_ring.ChipRing.pair_with.Goals as goal

pub loop-i-preserved : goal.loop-i-preserved
loop-i-preserved c = search rules
