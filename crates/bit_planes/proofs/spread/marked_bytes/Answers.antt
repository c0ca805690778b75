use Rattle.bit_planes.proofs.SpreadLemmas.{marked_lane, marked_long}
use Rattle.bit_planes.proofs.spread.marked_bytes.Goals as goal

pub returns-clause-long : goal.returns-clause-long
returns-clause-long c = marked_long 64 c.args.bytes c.args.masks c.args.ones c.requires.bytes
    c.requires.masks

pub returns-clause-lanes : goal.returns-clause-lanes
returns-clause-lanes c k j h mask =
    marked_lane 64 c.args.bytes c.args.masks c.args.ones k j c.requires.bytes c.requires.masks h
    mask
