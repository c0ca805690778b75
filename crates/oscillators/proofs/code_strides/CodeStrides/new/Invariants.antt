use Rattle.std.proofs.Common.{◌≡◌, ℕ, pos, ◌/◌, ◌%◌, ◌<◌, length, get_or}
use Rattle.oscillators.specs.Halves.{signed_half}
use Rattle.oscillators.specs.Ways.{half_to, room_of}
use Rattle.oscillators.proofs.code_strides.CodeStrides.new.Given as goal

abbrev pub invariant-loop-k : goal.invariant-loop-k
invariant-loop-k l = record {
  half_long : length l.half ≡ 64;
  high_long : length l.high ≡ 64;
  low_long : length l.low ≡ 64;
  half : (i : ℕ) → i < l.k → get_or l.half i 0 ≡ half_to l.step i;
  high : (i : ℕ) → i < l.k → get_or l.high i (pos 0) ≡ pos (room_of l.step i / 65536);
  low : (i : ℕ) → i < l.k → get_or l.low i (pos 0) ≡ signed_half (room_of l.step i % 65536);
}
