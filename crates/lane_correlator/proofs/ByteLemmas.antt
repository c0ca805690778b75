-- Sums in lanes of bytes.
use Rattle.std.proofs.Common.{◌≡◌, ℕ, zero, suc, ◌+◌, ◌-◌, ◌*◌, ◌%◌, ◌<◌, ◌≤◌, refl, sym, ap}
use Rattle.std.proofs.Common.{◌∙◌}
use Rattle.std.proofs.Common.{arith, inl, inr, List, length, get_or, w8, Fits}
use Rattle.std.proofs.Math.ListN.{get_or-eq_default}
use Rattle.std.proofs.lemmas.Bool.{cases_lt}
use Rattle.std.specs.Prelude.{ℤ, pos, ◌+ℤ◌, ◌*ℤ◌, unsigned_abs, bit_and, ◌⊎◌}
use Rattle.std.specs.Int.Bits.{and_zero_r}
use Rattle.std.proofs.Math.Nat.{mod-add-mod}
use Rattle.std.proofs.Math.Path.{ap₂}
use Rattle.std.specs.Simd.Lanes.{zip2, Each1}
use Rattle.std.proofs.lemmas.Int.{ints}
use Rattle.std.proofs.lemmas.Nat.{and_mask}
use Rattle.std.proofs.lemmas.Simd.{get_or-zip2, length-zip2, Each1-get_or}
use Rattle.definitions.specs.Sums.{total}
use Rattle.definitions.proofs.SumsLemmas.{total-same, total-split}
use Rattle.lane_correlator.specs.Bytes.{signed_byte, mask_sign, lane_of, sum_of_lanes}

-- ---- one lane

-- two products come into a lane of all, and those with a chip of -1 into a lane of turned ones
module _ (a t v w n m : ℕ) (ht : t < 256) (room : n + 2 * m ≤ 127)
    (low : unsigned_abs (signed_byte (a + 2 * (256 - t))) ≤ n)
    (sv : unsigned_abs (signed_byte v) ≤ m) (sw : unsigned_abs (signed_byte w) ≤ m) where
  neither : signed_byte ((a + v + w) % 256 + 2 * (256 - (t + 0 + 0) % 256))
      ≡ (signed_byte (a + 2 * (256 - t)) +ℤ signed_byte v *ℤ pos 1) +ℤ signed_byte w *ℤ pos 1
  neither = omega (arith, ints, low, sv, sw)

  second : signed_byte ((a + v + w) % 256 + 2 * (256 - (t + 0 + w % 256) % 256))
      ≡ (signed_byte (a + 2 * (256 - t)) +ℤ signed_byte v *ℤ pos 1)
      +ℤ signed_byte w *ℤ mask_sign 255
  second = omega (arith, ints, low, sv, sw)

  first : signed_byte ((a + v + w) % 256 + 2 * (256 - (t + v % 256 + 0) % 256))
      ≡ (signed_byte (a + 2 * (256 - t)) +ℤ signed_byte v *ℤ mask_sign 255)
      +ℤ signed_byte w *ℤ pos 1
  first = omega (arith, ints, low, sv, sw)

  both : signed_byte ((a + v + w) % 256 + 2 * (256 - (t + v % 256 + w % 256) % 256))
      ≡ (signed_byte (a + 2 * (256 - t)) +ℤ signed_byte v *ℤ mask_sign 255)
      +ℤ signed_byte w *ℤ mask_sign 255
  both = omega (arith, ints, low, sv, sw)

  pub lane_grown : (p q : ℕ) → (p ≡ 0) ⊎ (p ≡ 255) → (q ≡ 0) ⊎ (q ≡ 255)
      → signed_byte ((a + v + w) % 256 + 2 * (256 - (t + bit_and v p + bit_and w q) % 256))
      ≡ (signed_byte (a + 2 * (256 - t)) +ℤ signed_byte v *ℤ mask_sign p)
      +ℤ signed_byte w *ℤ mask_sign q
  lane_grown p q is_p is_q = elim is_p [
    | inl e ↦ elim is_q [
      | inl f ↦ rw (e, f, and_zero_r v, and_zero_r w) neither
      | inr f ↦ rw (e, f, and_zero_r v, and_mask w 8) second
    ]
    | inr e ↦ elim is_q [
      | inl f ↦ rw (e, f, and_mask v 8, and_zero_r w) first
      | inr f ↦ rw (e, f, and_mask v 8, and_mask w 8) both
    ]
  ]

-- a product with a sign is as great
pub signed_size : (z : ℤ) (mask m : ℕ) → (mask ≡ 0) ⊎ (mask ≡ 255) → unsigned_abs z ≤ m
    → unsigned_abs (z *ℤ mask_sign mask) ≤ m
signed_size z mask m either small = elim either [
  | inl e ↦ rw e (omega (arith, ints, small))
  | inr e ↦ rw e (omega (arith, ints, small))
]

-- ---- sums over lanes

pub total-zero : (g : ℕ → ℤ) (n : ℕ) → ((j : ℕ) → j < n → g j ≡ pos 0) → total g n ≡ pos 0
unfolding total
total-zero g zero none = refl
total-zero g (suc n) none = rw (total-zero g n (λ j h. none j (omega arith)), none n (omega arith))
    refl

pub total-sum : (f g : ℕ → ℤ) (n : ℕ) → total (λ j. f j +ℤ g j) n ≡ total f n +ℤ total g n
unfolding total
total-sum f g zero = refl
total-sum f g (suc n) = rw (total-sum f g n) (omega (arith, ints))

pub total-reversed : (f : ℕ → ℤ) (n : ℕ) → total (λ j. f (n - 1 - j)) n ≡ total f n
unfolding total
total-reversed f zero = refl
total-reversed f (suc n) =
    let one : suc n ≡ 1 + n = omega arith in
    let last : suc n - 1 - 0 ≡ n = omega arith in
    let top : f (suc n - 1 - 0) ≡ f n = ap f last in
    let first : total (λ j. f (suc n - 1 - j)) 1 ≡ f n = omega (arith, ints, top) in
    let rest : total (λ j. f (suc n - 1 - (1 + j))) n ≡ total f n =
    total-same (λ j. f (suc n - 1 - (1 + j))) (λ j. f (n - 1 - j)) n (λ j h.
    let place : suc n - 1 - (1 + j) ≡ n - 1 - j = omega arith in ap f place)
    ∙ total-reversed f n in
    ap (total (λ j. f (suc n - 1 - j))) one ∙ total-split (λ j. f (suc n - 1 - j)) 1 n
    ∙ rw (first, rest) (swapped (f n) (total f n))
  where
    swapped : (a b : ℤ) → a +ℤ b ≡ b +ℤ a
    swapped a b = omega (arith, ints)

-- ---- lanes of vectors

pub bytes_of : (xs : List ℕ) → Each1 (Fits w8) xs → (k : ℕ) → get_or xs k 0 < 256
bytes_of xs fits k = elim (cases_lt k (length xs)) [
  | inl inside ↦ (Each1-get_or (Fits w8) xs k 0 inside fits).fits
  | inr past ↦ rw (get_or-eq_default xs 0 past) (omega arith)
]

-- lanes of a half, with those of both halves of a word more
sum_long : (xs ys : List ℕ) → length xs ≡ 32 → length ys ≡ 32
    → length (zip2 (λ (a b : ℕ). (a + b) % 256) xs ys) ≡ 32
sum_long xs ys hx hy = length-zip2 (λ (a b : ℕ). (a + b) % 256) xs ys (hx ∙ sym hy) ∙ hx

sum_lane : (xs ys : List ℕ) (k : ℕ) → length xs ≡ 32 → length ys ≡ 32 → k < 32
    → get_or (zip2 (λ (a b : ℕ). (a + b) % 256) xs ys) k 0 ≡ (get_or xs k 0 + get_or ys k 0) % 256
sum_lane xs ys k hx hy h = get_or-zip2 (λ (a b : ℕ). (a + b) % 256) xs ys k 0 0 0
    (omega (arith, hx)) (omega (arith, hy))

abbrev pub both_added : List ℕ → List ℕ → List ℕ → List ℕ
both_added sums low high =
    zip2 (λ (a b : ℕ). (a + b) % 256) (zip2 (λ (a b : ℕ). (a + b) % 256) sums low) high

module _ (sums low high : List ℕ) (hs : length sums ≡ 32) (hl : length low ≡ 32)
    (hh : length high ≡ 32) where
  pub both_long : length (both_added sums low high) ≡ 32
  both_long =
      sum_long (zip2 (λ (a b : ℕ). (a + b) % 256) sums low) high (sum_long sums low hs hl) hh

  both_lane : (k : ℕ) → k < 32 → get_or (both_added sums low high) k 0
      ≡ (get_or sums k 0 + get_or low k 0 + get_or high k 0) % 256
  both_lane k h =
      sum_lane (zip2 (λ (a b : ℕ). (a + b) % 256) sums low) high k (sum_long sums low hs hl) hh h
      ∙ ap (λ (n : ℕ). (n + get_or high k 0) % 256) (sum_lane sums low k hs hl h)
      ∙ mod-add-mod (get_or sums k 0 + get_or low k 0) 256 (get_or high k 0)

  pub both_below : (k : ℕ) → k < 32 → get_or (both_added sums low high) k 0 < 256
  both_below k h = rw (both_lane k h) (omega arith)

  pub word_lane : (all : List ℕ) → ((k : ℕ) → k < 32 → get_or low k 0 ≡ get_or all k 0)
      → ((k : ℕ) → k < 32 → get_or high k 0 ≡ get_or all (32 + k) 0) → (k : ℕ) → k < 32
      → get_or (both_added sums low high) k 0
      ≡ (get_or sums k 0 + get_or all k 0 + get_or all (32 + k) 0) % 256
  word_lane all of_low of_high k h = both_lane k h
      ∙ ap₂ (λ (a b : ℕ). (get_or sums k 0 + a + b) % 256) (of_low k h) (of_high k h)

-- ---- sums over no samples

pub none_of_lanes : (all turned : List ℕ) → ((k : ℕ) → k < 32 → get_or all k 0 ≡ 0)
    → ((k : ℕ) → k < 32 → get_or turned k 0 ≡ 0) → sum_of_lanes all turned ≡ pos 0
unfolding sum_of_lanes
none_of_lanes all turned none nil = total-zero (lane_of all turned) 32 (λ k h.
    rw (none k h, nil k h) refl)

pub none_low : (all turned : List ℕ) → ((k : ℕ) → k < 32 → get_or all k 0 ≡ 0)
    → ((k : ℕ) → k < 32 → get_or turned k 0 ≡ 0) → (n k : ℕ) → k < 32
    → unsigned_abs (lane_of all turned k) ≤ n
none_low all turned none nil n k h = rw (none k h, nil k h) (omega arith)
