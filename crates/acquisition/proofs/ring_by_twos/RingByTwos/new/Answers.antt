use Rattle.acquisition.proofs.TwosLemmas.{twos_of_zeros}
use Rattle.acquisition.proofs.ring_by_twos.RingByTwos.new.Goals as goal

pub invariant_of-result : goal.invariant_of-result
invariant_of-result c = record { twos = twos_of_zeros _ _ c.new.ensures c.new-2.ensures }
