use Rattle.std.proofs.Common.{◌≡◌, ◌<◌, ◌≤◌, ◌+◌, ◌*◌, ◌%◌, ◌^◌, ℕ, slice_index}
use Rattle.acquisition.proofs.chip_ring.ChipRing.pair_with.Given as goal

abbrev pub invariant-loop-i : goal.invariant-loop-i
invariant-loop-i l = record {
  pairs : (j : ℕ) → j < l.i → slice_index l.self.chips j
      ≡ (slice_index l.fn.self.chips j + 2 ^ 16 * slice_index l.second.chips j) % 2 ^ 32;
  others : (j : ℕ) → l.i ≤ j → slice_index l.self.chips j ≡ slice_index l.fn.self.chips j;
}
