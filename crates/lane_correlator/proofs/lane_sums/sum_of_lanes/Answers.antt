use Rattle.lane_correlator.proofs.LaneSumLemmas.{folded_few, value, small, cast_fits}
use Rattle.lane_correlator.proofs.LaneSumLemmas.{less_fits, written, all}
use Rattle.lane_correlator.proofs.lane_sums.sum_of_lanes.Goals as goal

pub overflow_cast-result-2 : goal.overflow_cast-result-2
overflow_cast-result-2 c = cast_fits (all c.args.all c.args.turned)
    (folded_few c.args.all c.args.turned c.requires.all c.requires.turned)

pub overflow_sub-result : goal.overflow_sub-result
overflow_sub-result c = less_fits (all c.args.all c.args.turned)
    (folded_few c.args.all c.args.turned c.requires.all c.requires.turned)

pub returns-clause-value : goal.returns-clause-value
returns-clause-value c = written (all c.args.all c.args.turned) _
    (folded_few c.args.all c.args.turned c.requires.all c.requires.turned)
    (value c.args.all c.args.turned c.requires.all c.requires.turned)

pub returns-clause-small : goal.returns-clause-small
returns-clause-small c =
    rw (written (all c.args.all c.args.turned) _
    (folded_few c.args.all c.args.turned c.requires.all c.requires.turned)
    (value c.args.all c.args.turned c.requires.all c.requires.turned))
    (small c.args.all c.args.turned c.requires.all c.requires.turned)
