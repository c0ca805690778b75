use Rattle.std.proofs.Common.{arith}
use Rattle.acquisition.proofs.ring_pairs.pair.Goals as goal

pub returns : goal.returns
returns c = omega arith
