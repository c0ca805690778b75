use Rattle.std.proofs.Common.{◌∙◌, ◌/◌, arith}
use Rattle.ca_codes.specs.Filled.{IsTable}
use Rattle.ca_codes.proofs.book.look_up.Goals as goal

pub returns-clause-masks : goal.returns-clause-masks
unfolding IsTable
returns-clause-masks c prn table k h =
    let r = c.requires in
    c.pick_from_four.ensures.picked k h
    ∙ table _ (omega (arith, r.first (k / 16) (omega arith), r.below k h))
