use Rattle.std.proofs.Common.{◌≡◌, ℕ, pos, ◌-◌, ◌/◌, ◌%◌, ◌^◌, ◌<◌, length, get_or}
use Rattle.oscillators.specs.Halves.{signed_half}
use Rattle.oscillators.specs.Ways.{way_to}
use Rattle.oscillators.proofs.carrier_strides.CarrierStrides.new.Given as goal

abbrev pub invariant-loop-k : goal.invariant-loop-k
invariant-loop-k l = record {
  high_long : length l.high ≡ 64;
  room_long : length l.room ≡ 64;
  high : (i : ℕ) → i < l.k → get_or l.high i 0 ≡ way_to l.step i % 2 ^ 32 / 65536;
  room : (i : ℕ) → i < l.k
      → get_or l.room i (pos 0) ≡ signed_half (65535 - way_to l.step i % 65536);
}
