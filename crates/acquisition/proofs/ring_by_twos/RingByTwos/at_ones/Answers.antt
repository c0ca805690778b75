use Rattle.std.proofs.Common.{ℕ, length, pos}
use Rattle.std.specs.Prelude.{ℤ, ◌+ℤ◌}
use Rattle.acquisition.specs.Rings.{sum_at, with_next}
use Rattle.acquisition.specs.Twos.{AreAllPairs, HasPairs}
use Rattle.acquisition.proofs.TwosLemmas.{pair_at_ones, pairs_of_twos}
use Rattle.acquisition.proofs.ring_by_twos.RingByTwos.at_ones.Goals as goal

-- the sums of entries at the chips of 1 by twos, for the code that begins l half chips later
abbrev sum : goal.After-cells → (ℕ → ℕ) → ℕ → ℤ
sum c entry l =
    let ones = c.args.ones.now in
    (pos 0 +ℤ sum_at entry c.args.half ones.alone.items (length ones.alone.items) l)
    +ℤ sum_at (with_next entry) c.args.half ones.twos.items (length ones.twos.items) l

-- the lanes that are returned
lanes : (c : goal.After-cells) (f g : ℕ → ℕ) → HasPairs f g c.args.self.now.one.chips
    → AreAllPairs (sum c f) (sum c g) c.add_at.result
lanes c f g has =
    let ring = c.args.self.now in
    rw (c.alone.ensures, c.twos.ensures) at (c.add_at.ensures _ _ (with_next f) (with_next g)
    (pairs_of_twos f g ring.one.chips ring.two.chips has ring.twos)
    (c.add_at-alone.ensures (λ _. pos 0) (λ _. pos 0) f g has c.none.ensures))

pub returns-clause-sums : goal.returns-clause-sums
returns-clause-sums c f g has l h =
    pair_at_ones c.args.ones.now f g c.args.half l _
    (c.cells.ensures.cells _ _ (lanes c f g has) l h)
