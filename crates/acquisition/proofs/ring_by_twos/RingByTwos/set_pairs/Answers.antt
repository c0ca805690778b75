use Rattle.acquisition.proofs.TwosLemmas.{closed_of_pairs, closed_of_ring}
use Rattle.acquisition.proofs.ring_by_twos.RingByTwos.set_pairs.Goals as goal

pub set_twos-requires : goal.set_twos-requires
set_twos-requires c =
    closed_of_pairs _ _ _ c.pair_with.ensures (closed_of_ring _ _ c.set.ensures)
    (closed_of_ring _ _ c.set-2.ensures)

pub returns : goal.returns
returns c = record {
  first_ring = c.set.new.self.chips;
  second_ring = c.set-2.new.self.chips;
  is_first = c.set.ensures;
  is_second = c.set-2.ensures;
  are_paired = c.pair_with.ensures;
}
