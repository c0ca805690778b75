use Rattle.lane_correlator.proofs.MaskLemmas.{masked_long}
use Rattle.lane_correlator.proofs.TallyLemmas.{word_added_to}
use Rattle.lane_correlator.proofs.tally.Tally.add.Goals as goal

pub add-requires-2-clause-i : goal.add-requires-2-clause-i
add-requires-2-clause-i c =
    masked_long c.args.wiped.i c.args.chips.early c.requires.wiped.in_phase c.requires.lanes.early

pub add-requires-2-clause-q : goal.add-requires-2-clause-q
add-requires-2-clause-q c =
    masked_long c.args.wiped.q c.args.chips.early c.requires.wiped.quadrature c.requires.lanes.early

pub add-requires-3-clause-i : goal.add-requires-3-clause-i
add-requires-3-clause-i c =
    masked_long c.args.wiped.i c.args.chips.prompt c.requires.wiped.in_phase c.requires.lanes.prompt

pub add-requires-3-clause-q : goal.add-requires-3-clause-q
add-requires-3-clause-q c =
    masked_long c.args.wiped.q c.args.chips.prompt c.requires.wiped.quadrature
    c.requires.lanes.prompt

pub add-requires-4-clause-i : goal.add-requires-4-clause-i
add-requires-4-clause-i c =
    masked_long c.args.wiped.i c.args.chips.late c.requires.wiped.in_phase c.requires.lanes.late

pub add-requires-4-clause-q : goal.add-requires-4-clause-q
add-requires-4-clause-q c =
    masked_long c.args.wiped.q c.args.chips.late c.requires.wiped.quadrature c.requires.lanes.late

pub returns : goal.returns
returns c n most room low small_i small_q =
    word_added_to n most c.args.self _ c.args.wiped c.args.chips c.requires.wiped c.requires.lanes
    room low small_i small_q c.requires.masks c.add.ensures c.add-2.ensures c.add-3.ensures
    c.add-4.ensures
