use Rattle.std.proofs.Common.{refl, w32}
use Rattle.std.proofs.lemmas.Int.{to_z-of_z}
use Rattle.bit_sync.proofs.BitsLemmas.{begun}
use Rattle.bit_sync.proofs.bit_sum.BitSum.begun_with.Goals as goal

pub returns : goal.returns
returns c pushes is = begun pushes c.args.ip _ is refl (to_z-of_z w32 c.args.ip c.ranges.ip)
