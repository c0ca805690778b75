use Rattle.std.proofs.Common.{◌-◌, ◌∙◌, arith}
use Rattle.sample_planes.proofs.LayoutLemmas.{mask_of, shifted_lane, shifted_long}
use Rattle.sample_planes.proofs.layout.WordLayout.masks.Goals as goal

pub returns-clause-long : goal.returns-clause-long
returns-clause-long c = shifted_long c.args.self.now.tops _ c.args.self.now.lanes.1

pub returns-clause-masks : goal.returns-clause-masks
returns-clause-masks c width start l inside j h =
    shifted_lane c.args.self.now.tops c.args.at (63 - j) c.args.self.now.lanes.1 (omega arith)
    ∙ mask_of width c.args.at start j _ l.is_width inside h (l.tops (63 - j) (omega arith))
