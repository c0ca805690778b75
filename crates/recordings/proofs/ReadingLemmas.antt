-- Readings by what the code computes of the bytes.
use Rattle.std.proofs.Common.{◌≡◌, ℕ, ◌+◌, ◌-◌, ◌*◌, ◌%◌, ◌<◌, ◌≤◌, ◌^◌, inl, inr, sym, ◌∙◌, arith}
use Rattle.std.proofs.lemmas.Bool.{cases_lt}
use Rattle.std.specs.Prelude.{ℤ, pos, ◌+ℤ◌, ◌-ℤ◌, ◌*ℤ◌, neg_ℤ, unsigned_abs}
use mir.Syntax.{w32, w64}
use mir.Val.{to_z, of_z}
use Rattle.std.proofs.lemmas.Int.{ints}
use Rattle.std.proofs.lemmas.Bool.Decides.{nat_tests}
use Rattle.recordings.specs.Readings.{signed, sized, float_order}

pub doubled : (r : ℤ) → unsigned_abs r < 2 ^ 31
    → to_z w64 (of_z w64 (pos 2 *ℤ to_z w64 (of_z w64 r))) ≡ pos 2 *ℤ r
doubled r small = omega (arith, ints)

pub odd : (r : ℤ) → unsigned_abs r < 2 ^ 30
    → to_z w64 (of_z w64 (pos 2 *ℤ to_z w64 (of_z w64 (to_z w64 (of_z w64 (pos 2 *ℤ to_z w64
    (of_z w64 r))) +ℤ pos 1))))
    ≡ pos 2 *ℤ (pos 2 *ℤ r +ℤ pos 1)
odd r small = omega (arith, ints)

pub kept : (r : ℤ) → unsigned_abs r < 2 ^ 31 → to_z w64 (of_z w64 r) ≡ r
kept r small = omega (arith, ints)

pub lowered : (half n : ℕ) (h m : ℤ) → half ≤ 32768 → n < 2 * half → h ≡ pos half → m ≡ pos n
    → to_z w64 (of_z w64 (to_z w64 (of_z w64 m) -ℤ to_z w64 (of_z w64 (pos 2 *ℤ to_z w64
    (of_z w64 h)))))
    ≡ pos n -ℤ pos (2 * half)
lowered half n h m short below eh em = rw (eh, em) (omega (arith, ints))

pub signed-high : (half n : ℕ) → half ≤ n → signed half n ≡ pos n -ℤ pos (2 * half)
unfolding signed
signed-high half n h = grind (arith, nat_tests)

pub signed-low : (half n : ℕ) → n < half → signed half n ≡ pos n
unfolding signed
signed-low half n h = grind (arith, nat_tests)

pub float_order-low : (bits : ℕ) → bits < 2 ^ 31 → float_order bits ≡ pos bits
unfolding float_order
float_order-low bits h = grind (arith, nat_tests)

pub float_order-high : (bits : ℕ) → 2 ^ 31 ≤ bits → float_order bits ≡ neg_ℤ (pos (bits - 2 ^ 31))
unfolding float_order
float_order-high bits h = grind (arith, nat_tests)

pub sized-0 : (bits : ℕ) → bits ≡ 0 → pos 1 ≡ sized bits
unfolding sized
sized-0 bits e = rw e (omega (arith, ints))

pub sized-1 : (bits : ℕ) → bits ≡ 1 → pos 3 ≡ sized bits
unfolding sized
sized-1 bits e = rw e (omega (arith, ints))

pub sized-2 : (bits : ℕ) → bits ≡ 2 → neg_ℤ (pos 1) ≡ sized bits
unfolding sized
sized-2 bits e = rw e (omega (arith, ints))

pub sized-3 : (bits : ℕ) → bits ≡ 3 → neg_ℤ (pos 3) ≡ sized bits
unfolding sized
sized-3 bits e = rw e (omega (arith, ints))

-- ---- in 32 bits

pub doubled_32 : (r : ℤ) → unsigned_abs r ≤ 32768
    → to_z w32 (of_z w32 (pos 2 *ℤ to_z w32 (of_z w32 r))) ≡ pos 2 *ℤ r
doubled_32 r small = omega (arith, ints)

pub kept_32 : (r : ℤ) → unsigned_abs r < 2 ^ 31 → to_z w32 (of_z w32 r) ≡ r
kept_32 r small = omega (arith, ints)

pub of_16_bits : (n : ℕ) → n < 65536
    → to_z w32 (of_z w32 (to_z w32 ((n + 32768) % 65536) -ℤ pos 32768)) ≡ signed 32768 n
of_16_bits n h = elim (cases_lt n 32768) [
  | inl below ↦ at_low below ∙ sym (signed-low 32768 n below)
  | inr above ↦ at_high above ∙ sym (signed-high 32768 n above)
]
  where
    at_low : n < 32768
        → to_z w32 (of_z w32 (to_z w32 ((n + 32768) % 65536) -ℤ pos 32768)) ≡ pos n
    at_low below =
        let m : (n + 32768) % 65536 ≡ n + 32768 = omega (arith, below) in rw m (omega (arith, ints))

    at_high : 32768 ≤ n
        → to_z w32 (of_z w32 (to_z w32 ((n + 32768) % 65536) -ℤ pos 32768))
        ≡ pos n -ℤ pos (2 * 32768)
    at_high above =
        let m : (n + 32768) % 65536 ≡ n - 32768 = omega (arith, above, h) in
        rw m (omega (arith, ints, above, h))

-- and then in 64
pub widened : (r x : ℤ) → unsigned_abs r < 2 ^ 31 → x ≡ to_z w32 (of_z w32 r)
    → to_z w64 (of_z w64 x) ≡ r
widened r x small e = rw e (omega (arith, ints))
