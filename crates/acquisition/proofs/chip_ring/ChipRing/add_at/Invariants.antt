use Rattle.std.proofs.Common.{ℕ, ℤ, ◌+ℤ◌}
use Rattle.acquisition.specs.Twos.{HasPairs, AreAllPairs}
use Rattle.acquisition.specs.Rings.{sum_at}
use Rattle.acquisition.proofs.chip_ring.ChipRing.add_at.Given as goal

abbrev pub invariant-loop-k : goal.invariant-loop-k
invariant-loop-k l = (x y : ℕ → ℤ) (f g : ℕ → ℕ) → HasPairs f g l.self.chips
    → AreAllPairs x y l.fn.lanes
    → AreAllPairs (λ i. x i +ℤ sum_at f l.half l.places l.k i)
    (λ i. y i +ℤ sum_at g l.half l.places l.k i)
    (record { first = l.first; second = l.second; third = l.third; fourth = l.fourth })
