-- Two words that pass after one prior differ in no bit or in at least four.
use Rattle.std.proofs.Common.{◌≡◌, ℕ, zero, suc, ◌+◌, ◌-◌, ◌*◌, ◌%◌, ◌^◌, ◌<◌, ◌≤◌, inl, inr, Bool}
use Rattle.std.proofs.Common.{true, false, List, [], ◌∷◌, refl, sym, ap, ◌∙◌, arith}
use Rattle.std.specs.Prelude.{◌&&◌, not, sum_by, bit_xor, count_ones}
use Rattle.std.proofs.lemmas.Bool.{and_parts, cases_lt, not-true, both_ways, false_from_ne_true}
use Rattle.std.proofs.lemmas.Nat.{xor_lt, ones_cat, zero_from_ones, ones_le_self}
use Rattle.std.proofs.lemmas.Nat.Bits.{bit_at_xor, bit_at-zero}
use Rattle.std.proofs.lemmas.List.Sums.{sum_by-cons}
use Rattle.std.proofs.Math.Nat.{pow-suc}
use Rattle.definitions.specs.Parity.{Equation, equations, word_bit, data_bit, holds, passes}
use Rattle.nav_parity.specs.Laws.{DetectsThreeErrors}
use Rattle.nav_parity.proofs.Digits.{count_ones_of_bit}
use Rattle.nav_parity.proofs.Equations.{has_places, places_are_known, each_of_two, IsMet, Passes}
use Rattle.nav_parity.proofs.Equations.{Passes-from_true, passes-true}

-- ---- the equations are linear: what two passing words differ in passes by itself

sum_by-linear : (f g h : ℕ → ℕ) → ((k : ℕ) → h k ≡ (f k + g k) % 2) → (ks : List ℕ)
    → sum_by h ks % 2 ≡ (sum_by f ks + sum_by g ks) % 2
sum_by-linear f g h sums [] = refl
sum_by-linear f g h sums (k ∷ ks) =
    let rest : sum_by h ks % 2 ≡ (sum_by f ks + sum_by g ks) % 2 = sum_by-linear f g h sums ks in
    let first : h k ≡ (f k + g k) % 2 = sums k in
    omega (arith, sum_by-cons f k ks, sum_by-cons g k ks, sum_by-cons h k ks)

parities_add : (x a b c f g s : ℕ) → x ≡ (a + b) % 2 → a ≡ (c + f) % 2 → b ≡ (c + g) % 2
    → s % 2 ≡ (f + g) % 2 → x ≡ (0 + s) % 2
parities_add x a b c f g s e p q r = omega arith

pub Passes-difference : (word other prior : ℕ) → Passes word prior → Passes other prior
    → Passes (bit_xor word other) 0
unfolding Passes
Passes-difference word other prior h i =
    each_of_two (IsMet word prior) (IsMet other prior) (IsMet (bit_xor word other) 0) step equations
    places_are_known h i
  where
    data_bits_add : (k : ℕ)
        → data_bit (bit_xor word other) 0 k ≡ (data_bit word prior k + data_bit other prior k) % 2
    data_bits_add k = omega (arith, bit_at_xor word other (30 - k))

    step : (q : Equation) → has_places q ≡ true → IsMet word prior q → IsMet other prior q
        → IsMet (bit_xor word other) 0 q
    step q known a b =
        let sums : sum_by (data_bit (bit_xor word other) 0) q.data_places % 2
        ≡ (sum_by (data_bit word prior) q.data_places + sum_by (data_bit other prior)
        q.data_places) % 2
        =
        sum_by-linear (data_bit word prior) (data_bit other prior)
        (data_bit (bit_xor word other) 0) data_bits_add q.data_places in
        parities_add (word_bit (bit_xor word other) q.place) (word_bit word q.place)
        (word_bit other q.place) (word_bit prior q.star)
        (sum_by (data_bit word prior) q.data_places) (sum_by (data_bit other prior) q.data_places)
        (sum_by (data_bit (bit_xor word other) 0) q.data_places)
        (bit_at_xor word other (30 - q.place)) a b sums
        ∙ ap (λ (z : ℕ). (z + sum_by (data_bit (bit_xor word other) 0) q.data_places) % 2)
        (sym (bit_at-zero (30 - q.star)))

-- ---- no word with one, two or three ones passes after 0

-- whether none passes of the words that add at most n ones below 2 ^ k to this one
abbrev none_pass : ℕ → ℕ → ℕ → Bool
none_pass zero n word = not (passes word 0)
none_pass (suc k) zero word = not (passes word 0)
none_pass (suc k) (suc n) word = none_pass k (suc n) word && none_pass k n (word + 2 ^ k)

-- the words with a first one below 2 ^ k and at most two more
abbrev none_pass_below : ℕ → Bool
none_pass_below zero = true
none_pass_below (suc k) = none_pass k 2 (2 ^ k) && none_pass_below k

computed : none_pass_below 30 ≡ true
unfolding passes holds
computed = refl

none_pass-sound : (k n word more : ℕ) → none_pass k n word ≡ true → more < 2 ^ k
    → count_ones more ≤ n → passes (word + more) 0 ≡ false
none_pass-sound zero n word more h small few =
    let same : word + more ≡ word = omega arith in
    ap (λ (w : ℕ). passes w 0) same ∙ not-true (passes word 0) h
none_pass-sound (suc k) zero word more h small few =
    let none : more ≡ 0 = zero_from_ones more (omega arith) in
    let same : word + more ≡ word = omega arith in
    ap (λ (w : ℕ). passes w 0) same ∙ not-true (passes word 0) h
none_pass-sound (suc k) (suc n) word more h small few =
    let parts = and_parts (none_pass k (suc n) word) (none_pass k n (word + 2 ^ k)) h in
    elim (cases_lt more (2 ^ k)) [
      | inl below ↦ none_pass-sound k (suc n) word more parts.0 below few
      | inr above ↦
          let rest : ℕ = more - 2 ^ k in
          let fits : rest < 2 ^ k = omega (arith, pow-suc 2 k) in
          let cut : more ≡ 1 * 2 ^ k + rest = omega arith in
          let ones : count_ones more ≡ count_ones 1 + count_ones rest =
          ap count_ones cut ∙ ones_cat k 1 rest fits in
          let one : count_ones 1 ≡ 1 = count_ones_of_bit 1 (omega arith) in
          let same : word + more ≡ word + 2 ^ k + rest = omega arith in
          ap (λ (w : ℕ). passes w 0) same
          ∙ none_pass-sound k n (word + 2 ^ k) rest parts.1 fits (omega arith)
    ]

none_pass_below-sound : (k word : ℕ) → none_pass_below k ≡ true → word < 2 ^ k → 0 < word
    → count_ones word ≤ 3 → passes word 0 ≡ false
none_pass_below-sound zero word h small some few = absurd (omega arith)
none_pass_below-sound (suc k) word h small some few =
    let parts = and_parts (none_pass k 2 (2 ^ k)) (none_pass_below k) h in
    elim (cases_lt word (2 ^ k)) [
      | inl below ↦ none_pass_below-sound k word parts.1 below some few
      | inr above ↦
          let rest : ℕ = word - 2 ^ k in
          let fits : rest < 2 ^ k = omega (arith, pow-suc 2 k) in
          let cut : word ≡ 1 * 2 ^ k + rest = omega arith in
          let ones : count_ones word ≡ count_ones 1 + count_ones rest =
          ap count_ones cut ∙ ones_cat k 1 rest fits in
          let one : count_ones 1 ≡ 1 = count_ones_of_bit 1 (omega arith) in
          let same : word ≡ 2 ^ k + rest = omega arith in
          ap (λ (w : ℕ). passes w 0) same
          ∙ none_pass-sound k 2 (2 ^ k) rest parts.0 fits (omega arith)
    ]

pub detects_three_errors : DetectsThreeErrors
detects_three_errors word other prior is_word is_other is_prior passing far near =
    let change : ℕ = bit_xor word other in
    let some : 0 < change = omega (arith, ones_le_self change) in
    false_from_ne_true (passes other prior) (λ others.
    both_ways (passes change 0)
    (none_pass_below-sound 30 change computed (xor_lt 30 word other is_word is_other) some near)
    (passes-true change 0
    (Passes-difference word other prior (Passes-from_true word prior passing)
    (Passes-from_true other prior others))))
