-- The six equations as masks over the prior's two bits and the data.
use Rattle.std.proofs.Common.{◌≡◌, ℕ, zero, suc, ◌+◌, ◌-◌, ◌*◌, ◌%◌, ◌^◌, ◌<◌, ◌≤◌, true, List, []}
use Rattle.std.proofs.Common.{◌∷◌, refl, sym, ap, ◌∙◌, get_or, arith}
use Rattle.std.proofs.Math.Path.{ap₂}
use Rattle.std.specs.Prelude.{bit_and, bit_or, count_ones, sum_by, map}
use Rattle.std.specs.Int.{bit_at}
use Rattle.std.specs.List.{AllByRecursion, list_all}
use Rattle.std.proofs.lemmas.Bool.{and_parts}
use Rattle.std.proofs.lemmas.Nat.{and_mask, or_shifted, pow_below}
use Rattle.std.proofs.lemmas.Nat.Bits.{bit_at_cat_low, bit_at_cat_high}
use Rattle.std.proofs.lemmas.List.Sums.{sum_by-cons}
use Rattle.std.proofs.Math.Nat.{pow-suc, mod-eq_of_lt}
use Rattle.definitions.specs.Parity.{Equation, equations, word_bit, parity_bit}
use Rattle.nav_parity.specs.Words.{digit, HasParity}
use Rattle.nav_parity.proofs.Digits.{mask_of, falls_from, count_ones-and-mask_of, number}
use Rattle.nav_parity.proofs.Equations.{has_places, places_of, sum_by-same}

-- where a mask has the bits that an equation sums
abbrev summed_places : Equation → List ℕ
summed_places q = (54 - q.star) ∷ map (λ k. 24 - k) q.data_places

-- the masks of the six equations
abbrev pub masks : List ℕ
masks = map (λ q. mask_of (summed_places q)) equations

-- bit k of the parity, from 1, as the code finds it
abbrev pub masked_parity : ℕ → ℕ → ℕ
masked_parity summed k = count_ones (bit_and summed (get_or masks (k - 1) 0)) % 2

sum_by-map : (f h : ℕ → ℕ) (ks : List ℕ) → sum_by f (map h ks) ≡ sum_by (λ k. f (h k)) ks
sum_by-map f h [] = refl
sum_by-map f h (k ∷ ks) =
    sum_by-cons f (h k) (map h ks) ∙ ap (λ (s : ℕ). f (h k) + s) (sum_by-map f h ks)
    ∙ sym (sum_by-cons (λ k. f (h k)) k ks)

parity_by_mask : (source prior : ℕ) → source < 2 ^ 24 → (q : Equation) → has_places q ≡ true
    → falls_from 26 (summed_places q) ≡ true
    → count_ones (bit_and (prior * 2 ^ 24 + source) (mask_of (summed_places q))) % 2
    ≡ parity_bit (digit source) prior q
parity_by_mask source prior fits q known falls =
    let at = places_of q known in
    let summed : ℕ = prior * 2 ^ 24 + source in
    let place : 54 - q.star - 24 ≡ 30 - q.star = omega arith in
    let carried : bit_at summed (54 - q.star) ≡ word_bit prior q.star =
    bit_at_cat_high prior 24 source (54 - q.star) fits (omega (arith, at.prior_to_30))
    ∙ ap (bit_at prior) place in
    let own : (k : ℕ) → 0 < k → k ≤ 24 → bit_at summed (24 - k) ≡ digit source k =
    λ k p l. bit_at_cat_low prior 24 source (24 - k) (omega arith) in
    ap (λ (n : ℕ). n % 2)
    (count_ones-and-mask_of summed 26 (summed_places q) falls
    ∙ sum_by-cons (bit_at summed) (54 - q.star) (map (λ k. 24 - k) q.data_places)
    ∙ ap₂ (λ (x y : ℕ). x + y) carried
    (sum_by-map (bit_at summed) (λ k. 24 - k) q.data_places
    ∙ sum_by-same (λ k. bit_at summed (24 - k)) (digit source) own q.data_places at.in_data))

pub number-lt : (d : ℕ → ℕ) → ((k : ℕ) → d k < 2) → (n : ℕ) → number d n < 2 ^ n
number-lt d bits zero = omega arith
number-lt d bits (suc n) = omega (arith, number-lt d bits n, bits (suc n), pow-suc 2 n)

abbrev six : ℕ → ℕ → ℕ → ℕ → ℕ → ℕ → ℕ
six a b c d e f = 2 * (2 * (2 * (2 * (2 * (2 * 0 + a) + b) + c) + d) + e) + f

six_digits : (a b c d e f : ℕ) → a < 2 → b < 2 → c < 2 → d < 2 → e < 2 → f < 2
    → (bit_at (six a b c d e f) 5 ≡ a) × (bit_at (six a b c d e f) 4 ≡ b)
    × (bit_at (six a b c d e f) 3 ≡ c)
    × (bit_at (six a b c d e f) 2 ≡ d) × (bit_at (six a b c d e f) 1 ≡ e)
    × (bit_at (six a b c d e f) 0 ≡ f)
six_digits a b c d e f p q r s t u =
    (omega arith, omega arith, omega arith, omega arith, omega arith, omega arith)

pub number_of_masks-lt : (summed : ℕ) → number (masked_parity summed) 6 < 2 ^ 6
number_of_masks-lt summed = number-lt (masked_parity summed) (λ k. omega arith) 6

-- the shift and the `|` of the loop append a digit
pub number-more : (d : ℕ → ℕ) → ((k : ℕ) → d k < 2) → (n ones : ℕ) → n < 31 → ones % 2 ≡ d (n + 1)
    → bit_or (number d n * 2 % 2 ^ 32) (bit_and ones 1) ≡ number d (n + 1)
number-more d bits n ones h last =
    let small : number d n < 2 ^ 31 = omega (arith, number-lt d bits n, pow_below n 31 h) in
    let whole : number d n * 2 % 2 ^ 32 ≡ number d n * 2 = mod-eq_of_lt (omega arith) in
    let next : suc n ≡ n + 1 = omega arith in
    let appended : number d n * 2 + ones % 2 ≡ number d (suc n) = omega (arith, ap d next) in
    ap₂ bit_or whole (and_mask ones 1) ∙ or_shifted (number d n) 1 (ones % 2) (omega arith)
    ∙ appended ∙ ap (number d) next

-- the code's place for the prior bits
pub summed-is : (prior source : ℕ) → prior < 4 → source < 2 ^ 24
    → bit_or (prior * 2 ^ 24 % 2 ^ 32) source ≡ prior * 2 ^ 24 + source
summed-is prior source is_prior fits =
    let whole : prior * 2 ^ 24 % 2 ^ 32 ≡ prior * 2 ^ 24 = mod-eq_of_lt (omega arith) in
    ap (λ (x : ℕ). bit_or x source) whole ∙ or_shifted prior 24 source fits

parity_by_masks : (source prior : ℕ) → source < 2 ^ 24 → (qs : List Equation)
    → list_all has_places qs ≡ true → list_all (λ q. falls_from 26 (summed_places q)) qs ≡ true
    → AllByRecursion
    (λ q. count_ones (bit_and (prior * 2 ^ 24 + source) (mask_of (summed_places q))) % 2
    ≡ parity_bit (digit source) prior q) qs
parity_by_masks source prior fits [] known falls = tt
parity_by_masks source prior fits (q ∷ qs) known falls =
    let here = and_parts (has_places q) (list_all has_places qs) known in
    let fall =
    and_parts (falls_from 26 (summed_places q))
    (list_all (λ q. falls_from 26 (summed_places q)) qs) falls in (
      parity_by_mask source prior fits q here.0 fall.0,
      parity_by_masks source prior fits qs here.1 fall.1,
    )

pub HasParity-from_masks : (source prior : ℕ) → source < 2 ^ 24
    → HasParity (number (masked_parity (prior * 2 ^ 24 + source)) 6) source prior
unfolding HasParity
HasParity-from_masks source prior fits =
    place_each (parity_by_masks source prior fits equations refl refl)
  where
    d : ℕ → ℕ
    d = masked_parity (prior * 2 ^ 24 + source)

    place_each : AllByRecursion
        (λ q. count_ones (bit_and (prior * 2 ^ 24 + source) (mask_of (summed_places q))) % 2
        ≡ parity_bit (digit source) prior q) equations
        → AllByRecursion (λ q. word_bit (number d 6) q.place ≡ parity_bit (digit source) prior q)
        equations
    place_each (m1, (m2, (m3, (m4, (m5, (m6, _)))))) =
        let at =
        six_digits (d 1) (d 2) (d 3) (d 4) (d 5) (d 6) (omega arith) (omega arith) (omega arith)
        (omega arith) (omega arith) (omega arith) in
        (at.0 ∙ m1, (at.1 ∙ m2, (at.2 ∙ m3, (at.3 ∙ m4, (at.4 ∙ m5, (at.5 ∙ m6, tt))))))

-- what the loop of `parity_bits` keeps
pub next_parity_bit : (summed bits i : ℕ) → i < 6 → bits ≡ number (masked_parity summed) i
    → bit_or (bits * 2 % 2 ^ 32) (bit_and (count_ones (bit_and summed (get_or masks i 0))) 1)
    ≡ number (masked_parity summed) (i + 1)
next_parity_bit summed bits i h is =
    let ones : ℕ → ℕ = λ k. count_ones (bit_and summed (get_or masks k 0)) in
    let same : i ≡ i + 1 - 1 = omega arith in
    rw is (number-more (masked_parity summed) (λ k. omega arith) i (ones i) (omega arith)
    (ap (λ (k : ℕ). ones k % 2) same))

pub six_bits_lt : (summed bits i : ℕ) → i ≡ 6 → bits ≡ number (masked_parity summed) i
    → bits < 2 ^ 6
six_bits_lt summed bits i all is = rw (is, all) (number_of_masks-lt summed)

pub six_bits_are_parity : (source prior prior_bits bits i : ℕ) → prior < 4 → source < 2 ^ 24
    → prior_bits ≡ prior → i ≡ 6
    → bits ≡ number (masked_parity (bit_or (prior_bits * 2 ^ 24 % 2 ^ 32) source)) i
    → HasParity bits source prior
six_bits_are_parity source prior prior_bits bits i is_prior fits same all is =
    rw (is, all, same, summed-is prior source is_prior fits)
    (HasParity-from_masks source prior fits)

-- what `parity_bits` needs
pub ruleset six_bits = (next_parity_bit, six_bits_lt, six_bits_are_parity)
