use Rattle.acquisition.proofs.RingLemmas.{AreSet}
use Rattle.acquisition.proofs.chip_ring.ChipRing.set.Given as goal

abbrev pub invariant-loop-k : goal.invariant-loop-k
invariant-loop-k l = AreSet l.k l.table.sums l.self.chips
