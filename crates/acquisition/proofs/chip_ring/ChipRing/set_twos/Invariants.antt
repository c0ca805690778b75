use Rattle.std.proofs.Common.{◌≡◌, ◌<◌, ◌%◌, ◌^◌, ℕ, slice_index}
use Rattle.acquisition.specs.Rings.{with_next}
use Rattle.acquisition.proofs.chip_ring.ChipRing.set_twos.Given as goal

abbrev pub invariant-loop-i : goal.invariant-loop-i
invariant-loop-i l = (j : ℕ) → j < l.i
    → slice_index l.self.chips j ≡ with_next (slice_index l.one.chips) j % 2 ^ 32
