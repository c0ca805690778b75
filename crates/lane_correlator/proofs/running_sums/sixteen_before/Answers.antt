use Rattle.lane_correlator.proofs.RunningLemmas.{before_long, before_first, before_others}
use Rattle.lane_correlator.proofs.running_sums.sixteen_before.Goals as goal

pub returns-clause-long : goal.returns-clause-long
returns-clause-long c =
    let mask = c.mask_of_places.ensures in
    before_long c.args.bytes c.mask_of_places.result c.requires mask.long mask.inside mask.before

pub returns-clause-first : goal.returns-clause-first
returns-clause-first c =
    let mask = c.mask_of_places.ensures in
    before_first c.args.bytes c.mask_of_places.result c.requires mask.long mask.inside mask.before

pub returns-clause-others : goal.returns-clause-others
returns-clause-others c =
    let mask = c.mask_of_places.ensures in
    before_others c.args.bytes c.mask_of_places.result c.requires mask.long mask.inside
    mask.before
