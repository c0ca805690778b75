use Rattle.lane_correlator.proofs.RunningLemmas.{sums_long, first_before, one_before_more}
use Rattle.lane_correlator.proofs.running_sums.sums_before.Goals as goal

pub sixteen_before-two-requires : goal.sixteen_before-two-requires
sixteen_before-two-requires c = sums_long c.args.whole c.sixteen_before-one.result c.requires
    c.sixteen_before-one.ensures.long

pub sixteen_before-requires : goal.sixteen_before-requires
sixteen_before-requires c = sums_long c.args.whole c.sixteen_before-two.result c.requires
    c.sixteen_before-two.ensures.long

pub returns-clause-sums : goal.returns-clause-sums
returns-clause-sums c bytes are =
    let one = c.sixteen_before-one in
    let two = c.sixteen_before-two in
    one_before_more 2 bytes c.args.whole two.result c.sixteen_before.result c.requires
    two.ensures.long are
    (one_before_more 1 bytes c.args.whole one.result two.result c.requires one.ensures.long are
    (first_before bytes c.args.whole one.result are one.ensures.first one.ensures.others)
    two.ensures.first two.ensures.others) c.sixteen_before.ensures.first
    c.sixteen_before.ensures.others
