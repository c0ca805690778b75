-- A word as its data and its parity.
use Rattle.std.proofs.Common.{◌≡◌, ℕ, zero, suc, ◌+◌, ◌-◌, ◌*◌, ◌/◌, ◌%◌, ◌^◌, ◌<◌, ◌≤◌, Bool, true}
use Rattle.std.proofs.Common.{false, cond, Some, None, refl, sym, ap, ◌∙◌, arith}
use Rattle.std.proofs.Math.Path.{ap₂}
use Rattle.std.specs.Prelude.{bit_xor}
use Rattle.std.specs.Int.{bit_at}
use Rattle.std.specs.Int.Bits.{xor_assoc, xor_self, xor_zero_r}
use Rattle.std.proofs.lemmas.Bool.{cond-true, cond-false, false_from_ne_true}
use Rattle.std.proofs.lemmas.Nat.{xor_lt, shr-shr, shr_split, shr_high, mod_low}
use Rattle.std.proofs.lemmas.Nat.Bits.{bit_at_xor, bit_at_lowest, bit_at-zero, bit_at_ones}
use Rattle.std.proofs.lemmas.Nat.Bits.{bit_at_cat_low}
use Rattle.definitions.specs.Parity.{Equation, equations, word_bit, data_bit, parity_bit, passes}
use Rattle.definitions.specs.Parity.{data_of, checked_data}
use Rattle.nav_parity.specs.Words.{digit, HasParity, IsEncoded}
use Rattle.nav_parity.proofs.Digits.{number-same, number-digit, data_of-is}
use Rattle.nav_parity.proofs.Equations.{has_places, places_are_known, places_of, parity_bit-same}
use Rattle.nav_parity.proofs.Equations.{each, IsMet, Passes, Passes-from_true, passes-true}

-- what is sent for all data bits 0
abbrev pub inversion_of : ℕ → ℕ
inversion_of prior = prior % 2 * 0xff_ffff

-- the data of a word, as code finds them
abbrev pub uninverted : ℕ → ℕ → ℕ
uninverted word prior = bit_xor (word / 2 ^ 6) (inversion_of prior)

bit_at_repeated : (b i : ℕ) → b < 2 → i < 24 → bit_at (b * 0xff_ffff) i ≡ b
bit_at_repeated zero i h l = bit_at-zero i
bit_at_repeated (suc zero) i h l = bit_at_ones 24 i l
bit_at_repeated (suc (suc b)) i h l = absurd (omega arith)

pub inversion_of-lt : (prior : ℕ) → inversion_of prior < 2 ^ 24
inversion_of-lt prior = omega arith

pub uninverted-lt : (word prior : ℕ) → word < 2 ^ 30 → uninverted word prior < 2 ^ 24
uninverted-lt word prior h =
    xor_lt 24 (word / 2 ^ 6) (inversion_of prior) (omega arith) (inversion_of-lt prior)

-- inverting twice gives the bits back
pub inverted_twice : (a b : ℕ) → bit_xor (bit_xor a b) b ≡ a
inverted_twice a b = xor_assoc a b b ∙ ap (bit_xor a) (xor_self b) ∙ xor_zero_r a

pub digit-uninverted : (word prior k : ℕ) → 0 < k → k ≤ 24
    → digit (uninverted word prior) k ≡ data_bit word prior k
digit-uninverted word prior k p l =
    let i : ℕ = 24 - k in
    let place : 6 + i ≡ 30 - k = omega arith in
    let sent : bit_at (word / 2 ^ 6) i ≡ word_bit word k =
    ap (λ (x : ℕ). x % 2) (shr-shr word 6 i ∙ ap (λ (j : ℕ). word / 2 ^ j) place) in
    let flipped : bit_at (inversion_of prior) i ≡ word_bit prior 30 =
    bit_at_repeated (prior % 2) i (omega arith) (omega arith) ∙ sym (bit_at_lowest prior) in
    bit_at_xor (word / 2 ^ 6) (inversion_of prior) i ∙ ap₂ (λ (x y : ℕ). (x + y) % 2) sent flipped

pub data_of-uninverted : (word prior : ℕ) → word < 2 ^ 30
    → data_of word prior ≡ uninverted word prior
data_of-uninverted word prior h =
    data_of-is word prior
    ∙ sym (number-same (digit (uninverted word prior)) (data_bit word prior) 24
    (digit-uninverted word prior) 24 (omega arith))
    ∙ number-digit (uninverted word prior) (uninverted-lt word prior h)

-- the last six bits of a word
word_bit-low : (word k : ℕ) → 25 ≤ k → k ≤ 30 → word_bit word k ≡ word_bit (word % 2 ^ 6) k
word_bit-low word k p l =
    ap (λ (x : ℕ). bit_at x (30 - k)) (sym (shr_split word 6))
    ∙ bit_at_cat_low (word / 2 ^ 6) 6 (word % 2 ^ 6) (30 - k) (omega arith)

pub Passes-from_parity : (word prior : ℕ) → HasParity (word % 2 ^ 6) (uninverted word prior) prior
    → Passes word prior
unfolding Passes HasParity
Passes-from_parity word prior h =
    let step : (q : Equation) → has_places q ≡ true
    → word_bit (word % 2 ^ 6) q.place ≡ parity_bit (digit (uninverted word prior)) prior q
    → IsMet word prior q =
    λ q known e. let range = places_of q known in
    word_bit-low word q.place range.from_25 range.to_30 ∙ e
    ∙ parity_bit-same (digit (uninverted word prior)) (data_bit word prior)
    (digit-uninverted word prior) prior q known in
    each (λ q. word_bit (word % 2 ^ 6) q.place ≡ parity_bit (digit (uninverted word prior)) prior q)
    (IsMet word prior) step equations places_are_known h

pub HasParity-from_passes : (word prior : ℕ) → Passes word prior
    → HasParity (word % 2 ^ 6) (uninverted word prior) prior
unfolding Passes HasParity
HasParity-from_passes word prior h =
    let step : (q : Equation) → has_places q ≡ true → IsMet word prior q
    → word_bit (word % 2 ^ 6) q.place ≡ parity_bit (digit (uninverted word prior)) prior q =
    λ q known e. let range = places_of q known in
    sym (word_bit-low word q.place range.from_25 range.to_30) ∙ e
    ∙ sym (parity_bit-same (digit (uninverted word prior)) (data_bit word prior)
    (digit-uninverted word prior) prior q known) in
    each (IsMet word prior)
    (λ q. word_bit (word % 2 ^ 6) q.place ≡ parity_bit (digit (uninverted word prior)) prior q)
    step equations places_are_known h

-- data and a prior have one parity
pub same_parity : (p r source prior : ℕ) → p < 2 ^ 6 → r < 2 ^ 6 → HasParity p source prior
    → HasParity r source prior → p ≡ r
unfolding HasParity
same_parity p r source prior hp hr (p25, (p26, (p27, (p28, (p29, (p30, _))))))
    (r25, (r26, (r27, (r28, (r29, (r30, _)))))) =
    let five : bit_at p 5 ≡ bit_at r 5 = p25 ∙ sym r25 in
    let four : bit_at p 4 ≡ bit_at r 4 = p26 ∙ sym r26 in
    let three : bit_at p 3 ≡ bit_at r 3 = p27 ∙ sym r27 in
    let two : bit_at p 2 ≡ bit_at r 2 = p28 ∙ sym r28 in
    let one : bit_at p 1 ≡ bit_at r 1 = p29 ∙ sym r29 in
    let none : bit_at p 0 ≡ bit_at r 0 = p30 ∙ sym r30 in
    same_from_six p r hp hr none one two three four five
  where
    same_from_six : (m n : ℕ) → m < 2 ^ 6 → n < 2 ^ 6 → bit_at m 0 ≡ bit_at n 0
        → bit_at m 1 ≡ bit_at n 1 → bit_at m 2 ≡ bit_at n 2
        → bit_at m 3 ≡ bit_at n 3 → bit_at m 4 ≡ bit_at n 4 → bit_at m 5 ≡ bit_at n 5 → m ≡ n
    same_from_six m n hm hn e0 e1 e2 e3 e4 e5 = omega arith

-- what `checked` says of a word that passes, and of one that does not
pub checked-some : (word prior found : ℕ) → Passes word prior → data_of word prior ≡ found
    → checked_data word prior ≡ Some found
unfolding checked_data
checked-some word prior found h is =
    cond-true (passes word prior) (Some (data_of word prior)) None (passes-true word prior h)
    ∙ ap Some is

pub checked-none : (word prior : ℕ) → ¬ Passes word prior → checked_data word prior ≡ None
unfolding checked_data
checked-none word prior h =
    cond-false (passes word prior) (Some (data_of word prior)) None
    (false_from_ne_true (passes word prior) (λ all. h (Passes-from_true word prior all)))

pub checked-parts : (word prior found : ℕ) → checked_data word prior ≡ Some found
    → Passes word prior × (data_of word prior ≡ found)
unfolding checked_data
checked-parts word prior found h = by_test (passes word prior) refl h
  where
    by_test : (t : Bool) → passes word prior ≡ t
        → cond t (Some (data_of word prior)) None ≡ Some found
        → Passes word prior × (data_of word prior ≡ found)
    by_test true is same = (Passes-from_true word prior is, cc)
    by_test false is same = absurd cc

-- the data, inverted where the prior asks for it, and their parity are the one word for them
pub IsEncoded-from_parity : (parity source prior : ℕ) → parity < 2 ^ 6 → source < 2 ^ 24
    → HasParity parity source prior
    → IsEncoded (bit_xor source (inversion_of prior) * 2 ^ 6 + parity) source prior
IsEncoded-from_parity parity source prior short fits has =
    let flipped : ℕ = bit_xor source (inversion_of prior) in
    let coded : ℕ = flipped * 2 ^ 6 + parity in
    let narrow : flipped < 2 ^ 24 =
    xor_lt 24 source (inversion_of prior) fits (inversion_of-lt prior) in
    let is_word : coded < 2 ^ 30 = omega arith in
    let back : uninverted coded prior ≡ source =
    ap (λ (x : ℕ). bit_xor x (inversion_of prior)) (shr_high flipped 6 parity short)
    ∙ inverted_twice source (inversion_of prior) in
    let last : coded % 2 ^ 6 ≡ parity = mod_low flipped 6 parity short in
    let its_parity : HasParity (coded % 2 ^ 6) (uninverted coded prior) prior =
    rw (last, back) has in
    record {
      is_word = is_word;
      is_checked =
          checked-some coded prior source (Passes-from_parity coded prior its_parity)
          (data_of-uninverted coded prior is_word ∙ back);
      is_only = λ other is_other same.
          let both = checked-parts other prior source same in
          let alike : uninverted other prior ≡ source =
          sym (data_of-uninverted other prior is_other) ∙ both.1 in
          let high : other / 2 ^ 6 ≡ flipped =
          sym (inverted_twice (other / 2 ^ 6) (inversion_of prior))
          ∙ ap (λ (x : ℕ). bit_xor x (inversion_of prior)) alike in
          let others : HasParity (other % 2 ^ 6) source prior =
          rw (← alike) (HasParity-from_passes other prior both.0) in
          let low : other % 2 ^ 6 ≡ parity =
          same_parity (other % 2 ^ 6) parity source prior (omega arith) short others has in
          sym (shr_split other 6) ∙ ap₂ (λ (x y : ℕ). x * 2 ^ 6 + y) high low;
    }
