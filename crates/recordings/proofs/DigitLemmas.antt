-- Bytes by the bits of the samples in them.
use Rattle.std.proofs.Common.{◌≡◌, ℕ, ◌+◌, ◌-◌, ◌*◌, ◌%◌, ◌^◌, ◌<◌, ◌≤◌, inl, inr, sym}
use Rattle.std.proofs.Common.{ap, ◌∙◌, arith}
use Rattle.std.specs.Prelude.{bit_or}
use Rattle.std.specs.Int.{bit_at}
use Rattle.std.proofs.Math.Nat.{mod-eq_of_lt, mul-le-mul_right, mul-le-mul_left}
use Rattle.std.proofs.Math.Pow.{pow_mono}
use Rattle.std.proofs.lemmas.Nat.{pow-add, or_shifted, pow_pos}
use Rattle.std.proofs.lemmas.Nat.Bits.{bit_at_cat_low, bit_at_cat_high}
use Rattle.std.proofs.lemmas.Bool.{cases_lt}

-- a number of `count` digits of w bits each, the first of them the highest
pub record HasDigits (w count byte : ℕ) (digit : ℕ → ℕ) : Type 0 where
  pub few : byte < 2 ^ (w * count)
  pub each : (k r : ℕ) → k < count → r < w
      → bit_at byte (w * (count - 1 - k) + r) ≡ bit_at (digit k) r

pub no_digits : (w : ℕ) (digit : ℕ → ℕ) → HasDigits w 0 0 digit
no_digits w digit = record {
  few = let e : w * 0 ≡ 0 = omega arith in rw e (omega arith);
  each = λ k r h l. absurd (omega (arith, h));
}

-- one more after them
pub more_digits : (w n byte x : ℕ) (digit : ℕ → ℕ) → HasDigits w n byte digit → x ≡ digit n
    → x < 2 ^ w → HasDigits w (n + 1) (byte * 2 ^ w + x) digit
more_digits w n byte x digit d e small = record {
  few = below;
  each = λ k r h l. elim (cases_lt k n) [
    | inl before ↦ high k r before l
    | inr behind ↦ low k r (omega arith) l
  ];
}
  where
    below : byte * 2 ^ w + x < 2 ^ (w * (n + 1))
    below =
        let split : w * (n + 1) ≡ w * n + w = omega arith in
        let product : 2 ^ (w * n + w) ≡ 2 ^ (w * n) * 2 ^ w = pow-add 2 (w * n) w in
        let f = d.few in
        let bound : (byte + 1) * 2 ^ w ≤ 2 ^ (w * n) * 2 ^ w =
        mul-le-mul_right (2 ^ w) (omega arith) in
        rw (split, product) (omega arith)

    high : (k r : ℕ) → k < n → r < w
        → bit_at (byte * 2 ^ w + x) (w * (n + 1 - 1 - k) + r) ≡ bit_at (digit k) r
    high k r h l =
        let m : ℕ = n - 1 - k in
        let count : n + 1 - 1 - k ≡ m + 1 = omega arith in
        let place : w * (m + 1) + r ≡ w + (w * m + r) = omega arith in
        let behind : w + (w * m + r) - w ≡ w * m + r = omega arith in
        rw (count, place)
        (bit_at_cat_high byte w x (w + (w * m + r)) small (omega arith)
        ∙ ap (bit_at byte) behind ∙ d.each k r h l)

    low : (k r : ℕ) → k ≡ n → r < w
        → bit_at (byte * 2 ^ w + x) (w * (n + 1 - 1 - k) + r) ≡ bit_at (digit k) r
    low k r is l =
        let count : n + 1 - 1 - k ≡ 0 = omega arith in
        let place : w * 0 + r ≡ r = omega arith in
        rw (count, place) (bit_at_cat_low byte w x r l ∙ ap (λ (y : ℕ). bit_at y r) (e ∙ ap digit
        (sym is)))

-- a byte shifted, and joined with the next digit, is that number
pub joined : (w n per byte x : ℕ) → w * per ≡ 8 → n < per → byte < 2 ^ (w * n) → x < 2 ^ w
    → bit_or (byte * 2 ^ w % 256) x ≡ byte * 2 ^ w + x
joined w n per byte x whole h few small =
    let split : w * (n + 1) ≡ w * n + w = omega arith in
    let product : 2 ^ (w * n + w) ≡ 2 ^ (w * n) * 2 ^ w = pow-add 2 (w * n) w in
    let bound : (byte + 1) * 2 ^ w ≤ 2 ^ (w * n) * 2 ^ w =
    mul-le-mul_right (2 ^ w) (omega arith) in
    let places : w * (n + 1) ≤ w * per = mul-le-mul_left w (omega arith) in
    let most : 2 ^ (w * n + w) ≤ 2 ^ 8 = pow_mono {i = w * n + w} {j = 8} (omega arith) in
    let fits : byte * 2 ^ w < 256 = omega (arith, pow_pos w) in
    rw (mod-eq_of_lt fits) (or_shifted byte w x small)
