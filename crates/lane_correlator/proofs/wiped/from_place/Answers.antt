use Rattle.std.proofs.lemmas.Simd.{get_or-chunk, length-chunk}
use Rattle.std.proofs.Common.{arith}
use Rattle.lane_correlator.proofs.wiped.from_place.Goals as goal

pub returns-clause-long : goal.returns-clause-long
returns-clause-long c = length-chunk c.args.place 64 c.args.masks.now (omega (
  arith,
  c.requires.long,
  c.requires.place,
))

pub returns-clause-masks : goal.returns-clause-masks
returns-clause-masks c k h = get_or-chunk c.args.place 64 c.args.masks.now k 0 h
