use Rattle.std.proofs.Common.{◌≡◌, ℕ, ◌*◌, ◌<◌, true, false}
use Rattle.recordings.specs.Readings.{four_bytes, IsNumber}
use Rattle.recordings.proofs.numbers.are_numbers.Given as goal

abbrev pub invariant-loop-i : goal.invariant-loop-i
invariant-loop-i l = record {
  all : l.all ≡ true → (k : ℕ) → k < l.i → IsNumber (four_bytes l.bytes (4 * k));
  some : l.all ≡ false → (k : ℕ) × (k < l.i) × (IsNumber (four_bytes l.bytes (4 * k)) → ⊥);
}
