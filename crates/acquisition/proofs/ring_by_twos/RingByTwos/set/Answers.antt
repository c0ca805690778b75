use Rattle.acquisition.proofs.TwosLemmas.{closed_of_ring}
use Rattle.acquisition.proofs.ring_by_twos.RingByTwos.set.Goals as goal

pub set_twos-requires : goal.set_twos-requires
set_twos-requires c = closed_of_ring _ _ c.set.ensures

pub returns : goal.returns
returns c = c.set.ensures
