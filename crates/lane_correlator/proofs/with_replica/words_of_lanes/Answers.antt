use Rattle.std.proofs.Common.{arith, inr}
use Rattle.lane_correlator.proofs.with_replica.words_of_lanes.Goals as goal

pub returns-then-has_sizes-clause-room : goal.returns-then-has_sizes-clause-room
returns-then-has_sizes-clause-room c = inr (omega arith)
