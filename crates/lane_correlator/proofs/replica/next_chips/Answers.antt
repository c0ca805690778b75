use Rattle.lane_correlator.proofs.replica.next_chips.Goals as goal

pub returns-in-Any-clause-chips : goal.returns-in-Any-clause-chips
returns-in-Any-clause-chips c = c.next_lanes.ensures.chips
