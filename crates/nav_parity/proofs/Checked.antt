-- What `check` and `encode` find.
use Rattle.std.proofs.Common.{◌≡◌, ℕ, ◌+◌, ◌*◌, ◌%◌, ◌/◌, ◌^◌, ◌<◌, Some, None, sym, ap, ◌∙◌, arith}
use Rattle.std.specs.Prelude.{bit_and, bit_or, bit_xor}
use Rattle.std.proofs.lemmas.Nat.{and_mask, or_shifted, xor_lt}
use Rattle.std.proofs.Math.Nat.{mod-eq_of_lt}
use Rattle.definitions.specs.Parity.{checked_data}
use Rattle.nav_parity.specs.Words.{HasParity, IsEncoded}
use Rattle.nav_parity.specs.Laws.{EachDataHaveAWord, EachWordIsEncoded}
use Rattle.nav_parity.proofs.Digits.{number}
use Rattle.nav_parity.proofs.Equations.{Passes}
use Rattle.nav_parity.proofs.Masks.{masked_parity, HasParity-from_masks, number_of_masks-lt}
use Rattle.nav_parity.proofs.WholeWords.{IsEncoded-from_parity, inversion_of, inversion_of-lt}
use Rattle.nav_parity.proofs.WholeWords.{uninverted, uninverted-lt, data_of-uninverted}
use Rattle.nav_parity.proofs.WholeWords.{Passes-from_parity, HasParity-from_passes, same_parity}
use Rattle.nav_parity.proofs.WholeWords.{checked-some, checked-none, checked-parts}

pub xor_with_inversion_lt : (n prior inversion : ℕ) → n < 2 ^ 24 → inversion ≡ prior % 2 * 0xff_ffff
    → bit_xor n inversion < 2 ^ 24
xor_with_inversion_lt n prior inversion h is =
    xor_lt 24 n inversion h (rw is (inversion_of-lt prior))

module _ (word prior inversion parity : ℕ) (is_word : word < 2 ^ 30)
    (is : inversion ≡ prior % 2 * 0xff_ffff)
    (has : HasParity parity (bit_xor (word / 2 ^ 6) inversion) prior) where
  found-is : bit_xor (word / 2 ^ 6) inversion ≡ uninverted word prior
  found-is = ap (bit_xor (word / 2 ^ 6)) is

  pub equal_parity_checks : bit_and word 63 ≡ parity
      → Some (bit_xor (word / 2 ^ 6) inversion) ≡ checked_data word prior
  equal_parity_checks same =
      let last : parity ≡ word % 2 ^ 6 = sym same ∙ and_mask word 6 in
      let passes : Passes word prior =
      Passes-from_parity word prior (rw (← found-is, ← last) has) in
      sym (checked-some word prior (bit_xor (word / 2 ^ 6) inversion) passes
      (data_of-uninverted word prior is_word ∙ sym found-is))

  pub other_parity_fails : parity < 2 ^ 6 → ¬ (bit_and word 63 ≡ parity)
      → None ≡ checked_data word prior
  other_parity_fails short differs =
      sym (checked-none word prior (λ passes. differs
      (and_mask word 6
      ∙ same_parity (word % 2 ^ 6) parity (uninverted word prior) prior (omega arith) short
      (HasParity-from_passes word prior passes) (rw (← found-is) has))))

pub encoded_word : (source prior inversion parity : ℕ) → source < 2 ^ 24
    → inversion ≡ prior % 2 * 0xff_ffff → parity < 2 ^ 6 → HasParity parity source prior
    → IsEncoded (bit_or (bit_xor source inversion * 2 ^ 6 % 2 ^ 32) parity) source prior
encoded_word source prior inversion parity fits is short has =
    let flipped : ℕ = bit_xor source (inversion_of prior) in
    let narrow : flipped < 2 ^ 24 =
    xor_lt 24 source (inversion_of prior) fits (inversion_of-lt prior) in
    let whole : flipped * 2 ^ 6 % 2 ^ 32 ≡ flipped * 2 ^ 6 = mod-eq_of_lt (omega arith) in
    rw (is, whole, or_shifted flipped 6 parity short)
    (IsEncoded-from_parity parity source prior short fits has)

pub each_data_have_a_word : EachDataHaveAWord
each_data_have_a_word source prior is_data is_prior =
    let parity : ℕ = number (masked_parity (prior * 2 ^ 24 + source)) 6 in (
      bit_xor source (inversion_of prior) * 2 ^ 6 + parity,
      IsEncoded-from_parity parity source prior (number_of_masks-lt (prior * 2 ^ 24 + source))
          is_data (HasParity-from_masks source prior is_data),
    )

pub each_word_is_encoded : EachWordIsEncoded
each_word_is_encoded word prior found is_word is_prior is =
    let both = checked-parts word prior found is in
    let its : found ≡ uninverted word prior = sym both.1 ∙ data_of-uninverted word prior is_word in
    let is_data : found < 2 ^ 24 = rw its (uninverted-lt word prior is_word) in
    let one = each_data_have_a_word found prior is_data is_prior in
    let same : word ≡ one.0 = one.1.is_only word is_word is in
    (is_data, rw same one.1)

-- what `check` needs
pub ruleset checking = (xor_with_inversion_lt, equal_parity_checks, other_parity_fails)
