-- Where the first bits of samples lie, in the lanes of a word.
use Rattle.std.proofs.Common.{◌≡◌, ◌≢◌, ℕ, zero, suc, ◌+◌, ◌-◌, ◌*◌, ◌/◌, ◌%◌, ◌^◌, ◌<◌, ◌≤◌}
use Rattle.std.proofs.Common.{◌∙◌, List, [], ◌∷◌, length, get_or, Bool, true}
use Rattle.std.proofs.Common.{refl, ap, sym, arith, inl, inr}
use Rattle.std.specs.Prelude.{replicate, bit_and, ◌&&◌, ◌==◌}
use Rattle.std.specs.Simd.Lanes.{zip2, Each2}
use Rattle.std.proofs.Math.Nat.{mod-eq_of_lt}
use Rattle.std.proofs.lemmas.Nat.{pow-add, shl-shr, and_mask, and_le_r}
use Rattle.std.proofs.lemmas.Bool.{and_parts, eqb-true}
use Rattle.std.proofs.lemmas.Simd.{get_or-zip2, length-zip2}
use Rattle.std.proofs.lemmas.Simd.{Each2-of, Each2-splat, Each1-zip2, Each1-all}
use Rattle.std.proofs.lemmas.List.{get_or-replicate}
use Rattle.sample_planes.specs.Packings.{IsWidth}
use Rattle.sample_planes.specs.declared.layout.TheConstants.{LAST_FIRST}
use Rattle.sample_planes.proofs.LayoutLemmas.{shifted_lane}

-- numbers of sixteen samples, the last of them first
abbrev pub falling : ℕ → List ℕ → Bool
falling i [] = true
falling i (x ∷ xs) = (x == 15 - i % 16) && falling (i + 1) xs

pub falls : (xs : List ℕ) (i k : ℕ) → falling i xs ≡ true → k < length xs
    → get_or xs k 0 ≡ 15 - (i + k) % 16
falls [] i k e h = absurd (omega arith)
falls (x ∷ xs) i zero e h =
    let place : i + 0 ≡ i = omega arith in
    rw place (eqb-true x (15 - i % 16) (and_parts (x == 15 - i % 16) (falling (i + 1) xs) e).0)
falls (x ∷ xs) i (suc k) e h =
    let place : i + suc k ≡ i + 1 + k = omega arith in
    rw place (falls xs (i + 1) k (and_parts (x == 15 - i % 16) (falling (i + 1) xs) e).1
    (omega arith))

pub numbers_fall : falling 0 LAST_FIRST ≡ true
numbers_fall = refl

-- a lane of sums
pub added_lane : (xs ys : List ℕ) (k a b : ℕ) → length xs ≡ 64 → length ys ≡ 64 → k < 64
    → get_or xs k 0 ≡ a → get_or ys k 0 ≡ b → a + b < 256
    → get_or (zip2 (λ (x y : ℕ). (x + y) % 256) xs ys) k 0 ≡ a + b
added_lane xs ys k a b hx hy h is_a is_b small =
    get_or-zip2 (λ (x y : ℕ). (x + y) % 256) xs ys k 0 0 0 (omega (arith, hx)) (omega (arith, hy))
    ∙ rw (is_a, is_b) (mod-eq_of_lt small)

pub added_long : (xs ys : List ℕ) → length xs ≡ 64 → length ys ≡ 64
    → length (zip2 (λ (x y : ℕ). (x + y) % 256) xs ys) ≡ 64
added_long xs ys hx hy = length-zip2 (λ (x y : ℕ). (x + y) % 256) xs ys (hx ∙ sym hy) ∙ hx

-- the numbers of sixteen samples from one on
abbrev pub numbers : ℕ → List ℕ
numbers start = zip2 (λ (x y : ℕ). (x + y) % 256) (replicate 64 start) LAST_FIRST

pub numbers_long : (start : ℕ) → length (numbers start) ≡ 64
numbers_long start = added_long (replicate 64 start) LAST_FIRST refl refl

pub numbers_lane : (start k : ℕ) → start < 8 → k < 64
    → get_or (numbers start) k 0 ≡ start + (15 - k % 16)
numbers_lane start k few h =
    let place : 0 + k ≡ k = omega arith in
    let last : get_or LAST_FIRST k 0 ≡ 15 - k % 16 =
    rw place at (falls LAST_FIRST 0 k numbers_fall h) in
    added_lane (replicate 64 start) LAST_FIRST k start (15 - k % 16) refl refl h
    (get_or-replicate {A = ℕ} 64 k start 0 h) last (omega (arith, few))

pub few_starts : (width start : ℕ) → IsWidth width → width * start < 8 → start < 8
few_starts width start is_width few = elim is_width [
  | inl one ↦ let short : 1 * start < 8 = rw one at few in omega (arith, short)
  | inr more ↦ elim more [
    | inl two ↦ let short : 2 * start < 8 = rw two at few in omega (arith, short)
    | inr four ↦ let short : 4 * start < 8 = rw four at few in omega (arith, short)
  ]
]

-- a number of samples, by its width
pub times_width : (width n two all : ℕ) → IsWidth width → (width ≡ 1 → two ≡ n)
    → (width ≢ 1 → two ≡ n + n) → (width ≡ 4 → all ≡ two + two) → (width ≢ 4 → all ≡ two)
    → all ≡ width * n
times_width width n two all is_width one more four less = elim is_width [
  | inl e ↦
      let a : two ≡ n = one e in
      let b : all ≡ two = less (λ f. absurd (omega (arith, e, f))) in
      rw (e, b, a) (omega arith)
  | inr rest ↦ elim rest [
    | inl e ↦
        let a : two ≡ n + n = more (λ f. absurd (omega (arith, e, f))) in
        let b : all ≡ two = less (λ f. absurd (omega (arith, e, f))) in
        rw (e, b, a) (omega arith)
    | inr e ↦
        let a : two ≡ n + n = more (λ f. absurd (omega (arith, e, f))) in
        let b : all ≡ two + two = four e in
        rw (e, b, a) (omega arith)
  ]
]

-- ---- a layout by the first places

-- lanes have the first places of sixteen samples
abbrev pub AreFirst : (width start : ℕ) (places : List ℕ) → Type 0
AreFirst width start places =
    (k : ℕ) → k < 64 → get_or places k 0 ≡ width * (start + 15 - k % 16)

pub first_bytes : (width start : ℕ) (places : List ℕ) → length places ≡ 64
    → AreFirst width start places → (k : ℕ) → k < 64
    → get_or (zip2 (λ (a b : ℕ). a / 2 ^ b) places (replicate 64 3)) k 0
    ≡ width * (start + 15 - k % 16) / 8
first_bytes width start places long are k h =
    shifted_lane places 3 k long h ∙ ap (λ (x : ℕ). x / 8) (are k h)

pub near_by : (width start k : ℕ) → IsWidth width → width * start < 8
    → width * (start + 15 - k % 16) / 8 < 16
near_by width start k is_width few = elim is_width [
  | inl one ↦ let short : 1 * start < 8 = rw one at few in rw one (omega (arith, short))
  | inr more ↦ elim more [
    | inl two ↦ let short : 2 * start < 8 = rw two at few in rw two (omega (arith, short))
    | inr four ↦ let short : 4 * start < 8 = rw four at few in rw four (omega (arith, short))
  ]
]

pub narrow : (width : ℕ) → IsWidth width → width ≤ 4
narrow width is_width = elim is_width [
  | inl one ↦ omega (arith, one)
  | inr more ↦ elim more [
    | inl two ↦ omega (arith, two)
    | inr four ↦ omega (arith, four)
  ]
]

-- a byte's top bit, shifted down
top_shifted : (r : ℕ) → r < 8 → 128 / 2 ^ r ≡ 2 ^ (7 - r)
top_shifted r h =
    let whole : 7 ≡ 7 - r + r = omega arith in
    ap (λ (x : ℕ). x / 2 ^ r) (ap (λ (e : ℕ). 2 ^ e) whole ∙ pow-add 2 (7 - r) r)
    ∙ shl-shr (2 ^ (7 - r)) r

pub first_tops : (width start : ℕ) (places : List ℕ) → length places ≡ 64
    → AreFirst width start places → (k : ℕ) → k < 64
    → get_or (zip2 (λ (a b : ℕ). a / 2 ^ b) (replicate 64 128)
    (zip2 bit_and places (replicate 64 7))) k 0
    ≡ 2 ^ (7 - width * (start + 15 - k % 16) % 8)
first_tops width start places long are k h =
    let rest : length (zip2 bit_and places (replicate 64 7)) ≡ 64 =
    length-zip2 bit_and places (replicate 64 7) long ∙ long in
    let lane : get_or (zip2 bit_and places (replicate 64 7)) k 0
    ≡ width * (start + 15 - k % 16) % 8 =
    get_or-zip2 bit_and places (replicate 64 7) k 0 0 0 (omega (arith, long)) h
    ∙ rw (get_or-replicate {A = ℕ} 64 k 7 0 h, are k h)
    (and_mask (width * (start + 15 - k % 16)) 3) in
    get_or-zip2 (λ (a b : ℕ). a / 2 ^ b) (replicate 64 128) (zip2 bit_and places (replicate 64 7)) k
    0 0 0 h (omega (arith, rest))
    ∙ rw (get_or-replicate {A = ℕ} 64 k 128 0 h, lane)
    (top_shifted (width * (start + 15 - k % 16) % 8) (omega arith))

pub tops_long : (places : List ℕ) → length places ≡ 64
    → length (zip2 (λ (a b : ℕ). a / 2 ^ b) (replicate 64 128)
    (zip2 bit_and places (replicate 64 7))) ≡ 64
tops_long places long =
    let rest : length (zip2 bit_and places (replicate 64 7)) ≡ 64 =
    length-zip2 bit_and places (replicate 64 7) long ∙ long in
    length-zip2 (λ (a b : ℕ). a / 2 ^ b) (replicate 64 128) (zip2 bit_and places (replicate 64 7))
    (sym rest)

-- no lane is shifted by more than its bits
pub shifts_fit : (places : List ℕ)
    → Each2 (λ (a b : ℕ). b < 8) (replicate 64 128) (zip2 bit_and places (replicate 64 7))
shifts_fit places =
    Each2-of (λ (a : ℕ). 0 ≤ a) (λ (b : ℕ). b < 8) (λ (a b : ℕ). b < 8) (λ a b p q. q)
    (replicate 64 128) (zip2 bit_and places (replicate 64 7))
    (Each1-all (λ (a : ℕ). 0 ≤ a) (λ a. omega arith) (replicate 64 128))
    (Each1-zip2 bit_and (λ (b : ℕ). b < 8) places (replicate 64 7)
    (Each2-splat (λ (x y : ℕ). bit_and x y < 8) places 64 7
    (Each1-all (λ (x : ℕ). bit_and x 7 < 8) low places)))
  where
    low : (x : ℕ) → bit_and x 7 < 8
    low x = let most : bit_and x 7 ≤ 7 = and_le_r x 7 in omega (arith, most)
