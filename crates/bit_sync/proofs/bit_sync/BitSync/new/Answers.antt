use Rattle.bit_sync.specs.Standing.{StandsFor}
use Rattle.bit_sync.proofs.bit_sync.BitSync.new.Goals as goal

pub returns : goal.returns
unfolding StandsFor
returns c = c.new.ensures
