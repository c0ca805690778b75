use Rattle.std.proofs.Common.{◌≡◌, ◌<◌, ◌≤◌, ◌-◌, ℕ, slice_index}
use Rattle.acquisition.specs.declared.half_chip_table.TheConstants.{HALF_CHIPS}
use Rattle.acquisition.proofs.chip_ring.ChipRing.close.Given as goal

abbrev pub invariant-loop-i : goal.invariant-loop-i
invariant-loop-i l = record {
  low : HALF_CHIPS ≤ l.i;
  after : (i : ℕ) → HALF_CHIPS ≤ i → i < l.i
      → slice_index l.self.chips i ≡ slice_index l.fn.self.chips (i - HALF_CHIPS);
  others : (i : ℕ) → i < HALF_CHIPS → slice_index l.self.chips i ≡ slice_index l.fn.self.chips i;
}
