use Rattle.lane_correlator.proofs.ByteLemmas.{both_long, both_below, word_lane}
use Rattle.lane_correlator.proofs.lane_sums.LaneSums.add.Goals as goal

pub invariant_of-result : goal.invariant_of-result
invariant_of-result c = record {
  lanes = (
    both_long c.args.self.i _ _ c.args.self.lanes.0 c.low_half.ensures.long
        c.high_half.ensures.long,
    both_long c.args.self.q _ _ c.args.self.lanes.1 c.low_half-2.ensures.long
        c.high_half-2.ensures.long,
  );
  bytes_i = both_below c.args.self.i _ _ c.args.self.lanes.0 c.low_half.ensures.long
      c.high_half.ensures.long;
  bytes_q = both_below c.args.self.q _ _ c.args.self.lanes.1 c.low_half-2.ensures.long
      c.high_half-2.ensures.long;
}

pub returns : goal.returns
returns c = record {
  in_phase = word_lane c.args.self.i _ _ c.args.self.lanes.0 c.low_half.ensures.long
      c.high_half.ensures.long c.args.i c.low_half.ensures.lanes c.high_half.ensures.lanes;
  quadrature = word_lane c.args.self.q _ _ c.args.self.lanes.1 c.low_half-2.ensures.long
      c.high_half-2.ensures.long c.args.q c.low_half-2.ensures.lanes c.high_half-2.ensures.lanes;
}
