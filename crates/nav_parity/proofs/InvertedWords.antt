-- A word and its prior with all bits inverted.
use Rattle.std.proofs.Common.{◌≡◌, ℕ, ◌+◌, ◌-◌, ◌%◌, ◌^◌, ◌<◌, ◌≤◌, true, sym, ap, ◌∙◌, arith}
use Rattle.std.specs.Prelude.{bit_xor, sum_by}
use Rattle.std.specs.Int.{bit_at}
use Rattle.std.proofs.lemmas.Nat.Bits.{bit_at_xor, bit_at_ones, bit_at-lt}
use Rattle.std.specs.Cmp.{both_ways}
use Rattle.definitions.specs.Parity.{Equation, equations, word_bit, data_bit, passes}
use Rattle.nav_parity.specs.Laws.{inverted_word, inverted_prior, IsSameInverted}
use Rattle.nav_parity.proofs.Digits.{number-same, data_of-is}
use Rattle.nav_parity.proofs.Equations.{has_places, places_are_known, places_of, sum_by-same, each}
use Rattle.nav_parity.proofs.Equations.{IsMet, Passes, Passes-from_true, passes-true}

-- all of the low w bits inverted
inverted_bit : (w n i : ℕ) → i < w → bit_at (bit_xor n (2 ^ w - 1)) i + bit_at n i ≡ 1
inverted_bit w n i h = omega (arith, bit_at_xor n (2 ^ w - 1) i, bit_at_ones w i h, bit_at-lt n i)

module _ (word prior : ℕ) where
  word_bit-inverted : (k : ℕ) → 0 < k → k ≤ 30
      → word_bit (inverted_word word) k + word_bit word k ≡ 1
  word_bit-inverted k p l = inverted_bit 30 word (30 - k) (omega arith)

  prior_bit-inverted : (k : ℕ) → 29 ≤ k → k ≤ 30
      → word_bit (inverted_prior prior) k + word_bit prior k ≡ 1
  prior_bit-inverted k p l = inverted_bit 2 prior (30 - k) (omega arith)

  -- the inversions of a bit and of D30* cancel
  data_bit-inverted : (k : ℕ) → 0 < k → k ≤ 24
      → data_bit (inverted_word word) (inverted_prior prior) k ≡ data_bit word prior k
  data_bit-inverted k p l =
      omega (
        arith,
        word_bit-inverted k p (omega arith),
        prior_bit-inverted 30 (omega arith) (omega arith),
      )

  both_flip : (x y c d s : ℕ) → x + y ≡ 1 → c + d ≡ 1 → y ≡ (d + s) % 2 → x ≡ (c + s) % 2
  both_flip x y c d s p q h = omega arith

  sums_alike : (q : Equation) → has_places q ≡ true
      → sum_by (data_bit (inverted_word word) (inverted_prior prior)) q.data_places
      ≡ sum_by (data_bit word prior) q.data_places
  sums_alike q known =
      sum_by-same (data_bit (inverted_word word) (inverted_prior prior)) (data_bit word prior)
      data_bit-inverted q.data_places (places_of q known).in_data

  IsMet-inverted : (q : Equation) → has_places q ≡ true → IsMet word prior q
      → IsMet (inverted_word word) (inverted_prior prior) q
  IsMet-inverted q known h =
      let at = places_of q known in
      both_flip (word_bit (inverted_word word) q.place) (word_bit word q.place)
      (word_bit (inverted_prior prior) q.star) (word_bit prior q.star)
      (sum_by (data_bit word prior) q.data_places)
      (word_bit-inverted q.place (omega (arith, at.from_25)) at.to_30)
      (prior_bit-inverted q.star at.prior_from_29 at.prior_to_30) h
      ∙ ap (λ (s : ℕ). (word_bit (inverted_prior prior) q.star + s) % 2) (sym (sums_alike q known))

  IsMet-upright : (q : Equation) → has_places q ≡ true
      → IsMet (inverted_word word) (inverted_prior prior) q → IsMet word prior q
  IsMet-upright q known h =
      let at = places_of q known in
      let flipped : word_bit (inverted_word word) q.place
      ≡ (word_bit (inverted_prior prior) q.star + sum_by (data_bit word prior) q.data_places)
      % 2 =
      h ∙ ap (λ (s : ℕ). (word_bit (inverted_prior prior) q.star + s) % 2) (sums_alike q known) in
      let own : word_bit word q.place + word_bit (inverted_word word) q.place ≡ 1 =
      omega (arith, word_bit-inverted q.place (omega (arith, at.from_25)) at.to_30) in
      let before : word_bit prior q.star + word_bit (inverted_prior prior) q.star ≡ 1 =
      omega (arith, prior_bit-inverted q.star at.prior_from_29 at.prior_to_30) in
      both_flip (word_bit word q.place) (word_bit (inverted_word word) q.place)
      (word_bit prior q.star) (word_bit (inverted_prior prior) q.star)
      (sum_by (data_bit word prior) q.data_places) own before flipped

  Passes-inverted : Passes word prior → Passes (inverted_word word) (inverted_prior prior)
  unfolding Passes
  Passes-inverted =
      each (IsMet word prior) (IsMet (inverted_word word) (inverted_prior prior)) IsMet-inverted
      equations places_are_known

  Passes-upright : Passes (inverted_word word) (inverted_prior prior) → Passes word prior
  unfolding Passes
  Passes-upright =
      each (IsMet (inverted_word word) (inverted_prior prior)) (IsMet word prior) IsMet-upright
      equations places_are_known

  pub same_inverted : IsSameInverted word prior
  same_inverted = record {
    passes_alike =
        both_ways (passes (inverted_word word) (inverted_prior prior)) (passes word prior)
        (λ h. passes-true word prior
        (Passes-upright (Passes-from_true (inverted_word word) (inverted_prior prior) h)))
        (λ h. passes-true (inverted_word word) (inverted_prior prior)
        (Passes-inverted (Passes-from_true word prior h)));
    has_same_data =
        data_of-is (inverted_word word) (inverted_prior prior)
        ∙ number-same (data_bit (inverted_word word) (inverted_prior prior)) (data_bit word prior)
        24 data_bit-inverted 24 (omega arith)
        ∙ sym (data_of-is word prior);
  }
