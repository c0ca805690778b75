use Rattle.std.proofs.Common.{arith}
use Rattle.acquisition.proofs.chip_ring.place_of.Goals as goal

pub returns-else-place-lt-HALF_CHIPS-clause-place :
    goal.returns-else-place-lt-HALF_CHIPS-clause-place
returns-else-place-lt-HALF_CHIPS-clause-place c =
    omega (arith, c.requires.half, c.requires.first, c.if-place-lt-HALF_CHIPS.false)
