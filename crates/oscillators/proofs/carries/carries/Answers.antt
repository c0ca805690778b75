use Rattle.oscillators.proofs.CarryLemmas.{carried_long, carried_lane, carried_few}
use Rattle.oscillators.proofs.carries.carries.Goals as goal

pub returns-clause-long : goal.returns-clause-long
returns-clause-long c = carried_long _ c.args.rooms c.requires.rooms

pub returns-clause-carried : goal.returns-clause-carried
returns-clause-carried c room are k h =
    carried_lane c.args.low c.signed_half.result c.args.rooms room k c.signed_half.ensures
    c.requires.low c.requires.rooms are h

pub returns-clause-few : goal.returns-clause-few
returns-clause-few c k h = carried_few _ c.args.rooms k c.requires.rooms h
