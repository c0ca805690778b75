-- A sum regrouped by keys.
use Rattle.std.proofs.Common.{inl, inr, ◌≡◌, ℕ, zero, suc, ◌<◌, ◌≤◌, refl, sym, ap, ◌∙◌}
use Rattle.std.proofs.Common.{arith}
use Rattle.std.specs.Prelude.{ℤ, pos, negsuc, neg_ℤ, ◌+ℤ◌, ◌*ℤ◌, ◌==◌, false, cond, ◌⊎◌}
use Rattle.std.proofs.Math.IntN.{*ℤ_comm, suc_ℤ-*ℤ, *ℤ-negsuc, *ℤ-zero}
use Rattle.std.proofs.lemmas.Int.{ints}
use Rattle.std.proofs.lemmas.Bool.{eq-eqb}
use Rattle.definitions.specs.Sums.{total}
use Rattle.acquisition.specs.Folds.{sum_at_key}

one_more_times : (z : ℤ) (n : ℕ) → z *ℤ pos (suc n) ≡ z *ℤ pos n +ℤ z
one_more_times z n =
    *ℤ_comm z (pos (suc n)) ∙ suc_ℤ-*ℤ (pos n) z ∙ ap (λ w. w +ℤ z) (*ℤ_comm (pos n) z)

turned : (a b c d : ℤ) → a +ℤ b +ℤ (c +ℤ d) ≡ a +ℤ c +ℤ (b +ℤ d)
turned a b c d = omega (arith, ints)

times_sum-pos : (a b : ℤ) (n : ℕ) → (a +ℤ b) *ℤ pos n ≡ a *ℤ pos n +ℤ b *ℤ pos n
times_sum-pos a b zero = rw (*ℤ-zero (a +ℤ b), *ℤ-zero a, *ℤ-zero b) refl
times_sum-pos a b (suc n) = rw (
  one_more_times (a +ℤ b) n,
  one_more_times a n,
  one_more_times b n,
  times_sum-pos a b n,
) (turned (a *ℤ pos n) (b *ℤ pos n) a b)

times_sum : (a b c : ℤ) → (a +ℤ b) *ℤ c ≡ a *ℤ c +ℤ b *ℤ c
times_sum a b (pos n) = times_sum-pos a b n
times_sum a b (negsuc n) = rw (
  *ℤ-negsuc (a +ℤ b) n,
  *ℤ-negsuc a n,
  *ℤ-negsuc b n,
  times_sum-pos a b (suc n),
) (both_negated (a *ℤ pos (suc n)) (b *ℤ pos (suc n)))
  where
    both_negated : (x y : ℤ) → neg_ℤ (x +ℤ y) ≡ neg_ℤ x +ℤ neg_ℤ y
    both_negated x y = omega (arith, ints)

no_terms : (f : ℕ → ℤ) (n : ℕ) → total (λ k. pos 0 *ℤ f k) n ≡ pos 0
unfolding total
no_terms f zero = refl
no_terms f (suc n) = rw (no_terms f n) (nought (f n))
  where
    nought : (z : ℤ) → pos 0 +ℤ pos 0 *ℤ z ≡ pos 0
    nought z = omega (arith, ints)

four : (a b c d e : ℤ) → a +ℤ b +ℤ (c +ℤ d) *ℤ e ≡ a +ℤ c *ℤ e +ℤ (b +ℤ d *ℤ e)
four a b c d e = rw (times_sum c d e) (turned a b (c *ℤ e) (d *ℤ e))

sums_apart : (f g h : ℕ → ℤ) (n : ℕ) → total (λ k. (f k +ℤ g k) *ℤ h k) n
    ≡ total (λ k. f k *ℤ h k) n +ℤ total (λ k. g k *ℤ h k) n
unfolding total
sums_apart f g h zero = refl
sums_apart f g h (suc n) = rw (sums_apart f g h n)
    (four (total (λ k. f k *ℤ h k) n) (total (λ k. g k *ℤ h k) n) (f n) (g n) (h n))

-- a value at one key, and 0 at the others
at_key : ℕ → ℤ → ℕ → ℤ
at_key key y k = cond (key == k) y (pos 0)

none_below : (key : ℕ) (y : ℤ) (f : ℕ → ℤ) (n : ℕ) → n ≤ key
    → total (λ k. at_key key y k *ℤ f k) n ≡ pos 0
unfolding total at_key
none_below key y f zero h = refl
none_below key y f (suc n) h =
    let other : (key == n) ≡ false = apart key n (omega arith) in
    rw (other, none_below key y f n (omega arith)) (nought (f n))
  where
    nought : (z : ℤ) → pos 0 +ℤ pos 0 *ℤ z ≡ pos 0
    nought z = omega (arith, ints)

    apart : (a b : ℕ) → b < a → (a == b) ≡ false
    apart a b h = grind arith

one_picked : (key : ℕ) (y : ℤ) (f : ℕ → ℤ) (n : ℕ) → key < n
    → total (λ k. at_key key y k *ℤ f k) n ≡ y *ℤ f key
unfolding total at_key
one_picked key y f zero h = absurd (omega arith)
one_picked key y f (suc n) h = elim (last_or_before key n (omega arith)) [
  | inl same ↦ rw (← same, none_below key y f key (omega arith), eq-eqb key key refl)
      (alone (y *ℤ f key))
  | inr before ↦ let other : (key == n) ≡ false = apart key n before in
      rw (one_picked key y f n before, other) (no_more (y *ℤ f key) (f n))
]
  where
    alone : (z : ℤ) → pos 0 +ℤ z ≡ z
    alone z = omega (arith, ints)

    no_more : (y z : ℤ) → y +ℤ pos 0 *ℤ z ≡ y
    no_more y z = omega (arith, ints)

    apart : (a b : ℕ) → a < b → (a == b) ≡ false
    apart a b h = grind arith

    last_or_before : (k n : ℕ) → k < suc n → (k ≡ n) ⊎ (k < n)
    last_or_before k n below = grind arith

-- a sum of values times what belongs to their keys is the sum over the keys
pub regrouped : (y : ℕ → ℤ) (key : ℕ → ℕ) (f : ℕ → ℤ) (n most : ℕ)
    → ((i : ℕ) → i < n → key i < most)
    → total (λ i. y i *ℤ f (key i)) n ≡ total (λ k. sum_at_key y key n k *ℤ f k) most
unfolding total sum_at_key at_key
regrouped y key f zero most within = sym (no_terms f most)
regrouped y key f (suc n) most within =
    rw (
      regrouped y key f n most (λ i h. within i (omega arith)),
      ← one_picked (key n) (y n) f most (within n (omega arith)),
    ) (sym (sums_apart (sum_at_key y key n) (at_key (key n) (y n)) f most))
