use Rattle.std.proofs.Common.{rules}
use Rattle.acquisition.proofs.pair_lanes.PairLanes.none.Goals as goal

pub returns : goal.returns
returns c = search rules
