use Rattle.std.proofs.Common.{◌≡◌, ℕ, ◌+◌, ◌%◌, ◌<◌, length, get_or}
use Rattle.sample_history.specs.Shifts.{eight_bits}
use Rattle.sample_history.proofs.shifted_bytes.shifted_bytes.Given as goal

abbrev pub invariant-loop-k : goal.invariant-loop-k
invariant-loop-k l = record {
  long : length l.out ≡ 512;
  high : l.high ≡ get_or l.bytes (l.at + l.k) 0;
  bytes : (i : ℕ) → i < l.k → get_or l.out i 0 ≡ eight_bits (get_or l.bytes (l.at + i) 0)
      (get_or l.bytes (l.at + i + 1) 0) (l.place % 8);
}
