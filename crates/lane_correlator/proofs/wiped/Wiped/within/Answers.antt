use Rattle.lane_correlator.proofs.MaskLemmas.{masked_long, masked}
use Rattle.lane_correlator.proofs.wiped.Wiped.within.Goals as goal

pub returns-clause-long : goal.returns-clause-long
returns-clause-long c = record {
  in_phase = masked_long c.args.self.i c.mask_of_places-inside.result c.requires.long.in_phase
      c.mask_of_places-inside.ensures.long;
  quadrature = masked_long c.args.self.q c.mask_of_places-inside.result c.requires.long.quadrature
      c.mask_of_places-inside.ensures.long;
}

pub returns-clause-in_phase : goal.returns-clause-in_phase
returns-clause-in_phase c = masked c.args.first c.args.end c.args.self.i
    c.mask_of_places-inside.result
    c.requires.end c.requires.long.in_phase c.mask_of_places-inside.ensures.long
    c.mask_of_places-inside.ensures.inside c.mask_of_places-inside.ensures.before
    c.mask_of_places-inside.ensures.behind

pub returns-clause-quadrature : goal.returns-clause-quadrature
returns-clause-quadrature c = masked c.args.first c.args.end c.args.self.q
    c.mask_of_places-inside.result
    c.requires.end c.requires.long.quadrature c.mask_of_places-inside.ensures.long
    c.mask_of_places-inside.ensures.inside c.mask_of_places-inside.ensures.before
    c.mask_of_places-inside.ensures.behind
