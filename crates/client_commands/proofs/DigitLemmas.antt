-- A number by its digits, one more at a time.
use Rattle.std.proofs.Common.{◌≡◌, ℕ, suc, zero, ◌+◌, ◌-◌, ◌*◌, ◌^◌, ◌<◌, ◌≤◌, List, length, take}
use Rattle.std.proofs.Common.{get_or, ap, ◌∙◌, sym, refl, arith, true, add-zero, add-suc, add-one}
use Rattle.std.specs.List.{list_all}
use Rattle.std.specs.Char.{is_ascii_digit}
use Rattle.std.specs.Str.Parse.{digits_value}
use Rattle.std.proofs.Math.Nat.{pow-suc}
use Rattle.std.proofs.lemmas.Str.{digit_value_digit}
use Rattle.std.proofs.lemmas.Int.Digits.{digits_value_more}
use Rattle.std.proofs.lemmas.List.Folds.{list_all_more}

powers_rise : (i k : ℕ) → 10 ^ i ≤ 10 ^ (i + k)
powers_rise i zero = rw (add-zero i) (omega arith)
powers_rise i (suc k) =
    let h = powers_rise i k in
    let e : 10 ^ (i + suc k) ≡ 10 ^ (i + k) * 10 = ap (λ (n : ℕ). 10 ^ n) (add-suc i k)
    ∙ pow-suc 10 (i + k) in
    omega arith

-- a number of at most 12 digits has room for one more
pub room_for_digit : (n i : ℕ) → n < 10 ^ i → i < 13 → 10 * n + 9 < 10 ^ 13
room_for_digit n i h below =
    let e : i + (12 - i) ≡ 12 = omega arith in
    let rise = rw e at (powers_rise i (12 - i)) in
    omega arith

pub short_number : (n i : ℕ) → n < 10 ^ i → i ≤ 13 → n < 10 ^ 13
short_number n i h below =
    let e : i + (13 - i) ≡ 13 = omega arith in
    let rise = rw e at (powers_rise i (13 - i)) in
    omega arith

pub power_of_one_more : (n d i : ℕ) → n < 10 ^ i → d ≤ 9 → 10 * n + d < 10 ^ (i + 1)
power_of_one_more n d i h digit =
    let e : 10 ^ (i + 1) ≡ 10 ^ i * 10 = ap (λ (m : ℕ). 10 ^ m) (add-one i) ∙ pow-suc 10 i in
    omega arith

pub all_with_one_more : (word : List ℕ) (i : ℕ) → i < length word
    → list_all is_ascii_digit (take i word) ≡ true → true ≡ is_ascii_digit (get_or word i 0)
    → list_all is_ascii_digit (take (i + 1) word) ≡ true
all_with_one_more word i below all here = rw
    (list_all_more is_ascii_digit word i 0 below, all, sym here) refl

pub value_of_one_more : (word : List ℕ) (i number digit : ℕ) → i < length word → number
    ≡ digits_value 10 (take i word) → digit ≡ get_or word i 0 - 48 → 48 ≤ get_or word i 0
    → get_or word i 0 ≤ 57 → 10 * number + digit ≡ digits_value 10 (take (i + 1) word)
value_of_one_more word i number digit below value here low high =
    let more = digits_value_more 10 word i below in
    let its = digit_value_digit (get_or word i 0) (low, high) in
    omega arith
