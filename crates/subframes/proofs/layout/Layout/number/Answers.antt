use Rattle.std.proofs.Common.{sym, ◌∙◌}
use Rattle.subframes.specs.Layouts.{layout_in}
use Rattle.subframes.proofs.Parts.{one_part, joined_parts, number_of_parts-lt}
use Rattle.subframes.proofs.layout.Layout.number.Goals as goal

pub returns-in-None-clause-number : goal.returns-in-None-clause-number
returns-in-None-clause-number c = c.number-head.ensures.number
    ∙ sym (one_part c.args.subframe.now c.args.self.now c.in-None.is)

pub returns-in-Some-clause-number : goal.returns-in-Some-clause-number
returns-in-Some-clause-number c =
    joined_parts c.args.subframe.now c.args.self.now c.in-Some.tail c.number-head.result
    c.len.result c.number.result c.requires c.in-Some.is c.len.ensures
    c.number-head.ensures.number c.number-head.ensures.in_range c.number.ensures.number
    c.number.ensures.in_range

pub returns-in-Some-clause-in_range : goal.returns-in-Some-clause-in_range
returns-in-Some-clause-in_range c =
    rw (joined_parts c.args.subframe.now c.args.self.now c.in-Some.tail c.number-head.result
    c.len.result c.number.result c.requires c.in-Some.is c.len.ensures
    c.number-head.ensures.number c.number-head.ensures.in_range c.number.ensures.number
    c.number.ensures.in_range)
    (number_of_parts-lt c.args.subframe.now (layout_in c.args.self.now))
