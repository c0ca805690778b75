-- Masks as the places of their bits, and numbers as their digits.
use Rattle.std.proofs.Common.{◌≡◌, ℕ, zero, suc, ◌+◌, ◌-◌, ◌*◌, ◌/◌, ◌%◌, ◌^◌, ◌<◌, ◌≤◌, Bool, true}
use Rattle.std.proofs.Common.{List, [], ◌∷◌, refl, sym, ap, ◌∙◌, arith}
use Rattle.std.proofs.Math.Path.{ap₂}
use Rattle.std.specs.Prelude.{◌&&◌, nat_lt, map, sum_by, bit_and, count_ones}
use Rattle.std.specs.Int.{bit_at}
use Rattle.std.specs.Int.Digits.{number_from_digits}
use Rattle.std.specs.List.{range_with_len}
use Rattle.std.specs.Int.Bits.{and_zero_r}
use Rattle.std.specs.Int.Count.{ones}
use Rattle.std.proofs.lemmas.Bool.{and_parts, ltb-true}
use Rattle.std.proofs.lemmas.Nat.{pow_pos, shr_split, and_block, ones_cat, and_mod, and_le_r}
use Rattle.std.proofs.lemmas.Nat.{mod-pow-add, shr-shr}
use Rattle.std.proofs.lemmas.Nat.Bits.{shr_and_one, bit_at-lt}
use Rattle.std.proofs.lemmas.List.Sums.{sum_by-cons}
use Rattle.std.proofs.Math.Nat.{pow-suc, mod-lt, mod-one, mod-eq_of_lt}
use Rattle.std.proofs.Math.Pow.{pow_mono}
use Rattle.std.proofs.lemmas.Int.Digits.{number_push}
use Rattle.std.proofs.lemmas.List.FromFn.{map-range_with_len_more}
use Rattle.definitions.specs.Parity.{data_bit, data_of}
use Rattle.nav_parity.specs.Words.{digit}

-- the mask with ones at these places
abbrev pub mask_of : List ℕ → ℕ
mask_of [] = 0
mask_of (j ∷ js) = 2 ^ j + mask_of js

-- whether the places are below b and fall
abbrev pub falls_from : ℕ → List ℕ → Bool
falls_from b [] = true
falls_from b (j ∷ js) = nat_lt j b && falls_from j js

mask_of-lt : (b : ℕ) (js : List ℕ) → falls_from b js ≡ true → mask_of js < 2 ^ b
mask_of-lt b [] h = pow_pos b
mask_of-lt b (j ∷ js) h =
    let parts = and_parts (nat_lt j b) (falls_from j js) h in
    let below : j < b = ltb-true j b parts.0 in
    let rest : mask_of js < 2 ^ j = mask_of-lt j js parts.1 in
    let twice : 2 ^ suc j ≡ 2 ^ j * 2 = pow-suc 2 j in
    let grows : 2 ^ suc j ≤ 2 ^ b = pow_mono below in
    omega arith

pub count_ones_of_bit : (x : ℕ) → x < 2 → count_ones x ≡ x
unfolding ones
count_ones_of_bit zero h = refl
count_ones_of_bit (suc zero) h = refl
count_ones_of_bit (suc (suc x)) h = absurd (omega arith)

-- the ones that a mask keeps, one place at a time
pub count_ones-and-mask_of : (n b : ℕ) (js : List ℕ) → falls_from b js ≡ true
    → count_ones (bit_and n (mask_of js)) ≡ sum_by (bit_at n) js
count_ones-and-mask_of n b [] h = ap count_ones (and_zero_r n) ∙ count_ones_of_bit 0 (omega arith)
count_ones-and-mask_of n b (j ∷ js) h =
    let parts = and_parts (nat_lt j b) (falls_from j js) h in
    let m : ℕ = mask_of js in
    let small : m < 2 ^ j = mask_of-lt j js parts.1 in
    let low : n % 2 ^ j < 2 ^ j = mod-lt n (pow_pos j) in
    let kept : bit_and n m < 2 ^ j = omega (arith, and_le_r n m) in
    let cut : bit_and n m ≡ bit_and (n % 2 ^ j) m =
    sym (mod-eq_of_lt kept) ∙ and_mod n m j ∙ ap (bit_and (n % 2 ^ j)) (mod-eq_of_lt small) in
    let lower : bit_and (n % 2 ^ j) m < 2 ^ j = omega (arith, and_le_r (n % 2 ^ j) m) in
    let one : 2 ^ j + m ≡ 1 * 2 ^ j + m = omega arith in
    ap count_ones (ap₂ bit_and (sym (shr_split n j)) one
    ∙ and_block j (n / 2 ^ j) 1 (n % 2 ^ j) m low small)
    ∙ ones_cat j (bit_and (n / 2 ^ j) 1) (bit_and (n % 2 ^ j) m) lower
    ∙ ap₂ (λ (x y : ℕ). x + y)
    (ap count_ones (shr_and_one n j) ∙ count_ones_of_bit (bit_at n j) (bit_at-lt n j))
    (ap count_ones (sym cut) ∙ count_ones-and-mask_of n j js parts.1)
    ∙ sym (sum_by-cons (bit_at n) j js)

-- the number with the binary digits d 1 to d n, the highest first
abbrev pub number : (ℕ → ℕ) → ℕ → ℕ
number d zero = 0
number d (suc n) = 2 * number d n + d (suc n)

number_from_digits-is : (d : ℕ → ℕ) (n : ℕ)
    → number_from_digits 2 (map d (range_with_len 1 n)) ≡ number d n
number_from_digits-is d zero = refl
number_from_digits-is d (suc n) =
    let more : number_from_digits 2 (map d (range_with_len 1 (n + 1)))
    ≡ number_from_digits 2 (map d (range_with_len 1 n)) * 2 + d (suc n) =
    ap (number_from_digits 2) (map-range_with_len_more d 1 n (suc n) (omega arith))
    ∙ number_push 2 (map d (range_with_len 1 n)) (d (suc n)) in
    let next : suc n ≡ n + 1 = omega arith in
    let rest : number_from_digits 2 (map d (range_with_len 1 n)) ≡ number d n =
    number_from_digits-is d n in
    ap (λ (k : ℕ). number_from_digits 2 (map d (range_with_len 1 k))) next ∙ more ∙ omega arith

pub data_of-is : (word prior : ℕ) → data_of word prior ≡ number (data_bit word prior) 24
unfolding data_of
data_of-is word prior = number_from_digits-is (data_bit word prior) 24

pub number-same : (f g : ℕ → ℕ) (w : ℕ) → ((k : ℕ) → 0 < k → k ≤ w → f k ≡ g k) → (n : ℕ) → n ≤ w
    → number f n ≡ number g n
number-same f g w same zero h = refl
number-same f g w same (suc n) h =
    ap₂ (λ (x y : ℕ). 2 * x + y) (number-same f g w same n (omega arith))
    (same (suc n) (omega arith) h)

number_of_bits : (x w n : ℕ) → n ≤ w → number (λ k. bit_at x (w - k)) n ≡ x / 2 ^ (w - n) % 2 ^ n
number_of_bits x w zero h = sym (mod-one (x / 2 ^ (w - 0)))
number_of_bits x w (suc n) h =
    let j : ℕ = w - suc n in
    let above : j + 1 ≡ w - n = omega arith in
    let half : x / 2 ^ j / 2 ^ 1 % 2 ^ n ≡ x / 2 ^ (w - n) % 2 ^ n =
    ap (λ (y : ℕ). y % 2 ^ n) (shr-shr x j 1 ∙ ap (λ (i : ℕ). x / 2 ^ i) above) in
    let last : x / 2 ^ j % 2 ^ (n + 1) ≡ (x / 2 ^ j / 2 ^ 1 % 2 ^ n) * 2 ^ 1 + x / 2 ^ j % 2 ^ 1 =
    mod-pow-add (x / 2 ^ j) n 1 in
    let before : number (λ k. bit_at x (w - k)) n ≡ x / 2 ^ (w - n) % 2 ^ n =
    number_of_bits x w n (omega arith) in
    let next : x / 2 ^ j % 2 ^ (n + 1) ≡ x / 2 ^ j % 2 ^ suc n =
    ap (λ (i : ℕ). x / 2 ^ j % 2 ^ i) (omega arith) in
    omega arith

pub number-digit : (source : ℕ) → source < 2 ^ 24 → number (digit source) 24 ≡ source
number-digit source h = number_of_bits source 24 24 (omega arith) ∙ omega arith
