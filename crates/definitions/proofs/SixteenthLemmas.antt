-- The edge is at the sixteenth change, where all changes stand at one place.
use Rattle.std.proofs.Common.{◌≡◌, ℕ, zero, suc, ◌+◌, ◌-◌, ◌%◌, ◌<◌, ◌≤◌, List, refl, sym, ap, ◌∙◌}
use Rattle.std.proofs.Common.{arith}
use Rattle.std.specs.Prelude.{ℤ, Bool, true, false, cond, fold, ◌==◌, ◌&&◌, nat_le, nat_eq}
use Rattle.std.specs.List.{range_with_len}
use Rattle.std.proofs.lemmas.Bool.{eqb-true, eq-eqb, lt-leb}
use Rattle.definitions.specs.BitEdge.{is_change, changes_at, is_crowded, reset_up_to, is_edge}
use Rattle.definitions.specs.SlotLaws.{EdgeIsSixteenthChange}

clash : {b : Bool} → b ≡ true → b ≡ false → ⊥
clash t f = cc

-- what no number of a range passes, and what one at most does
counted : (ℕ → Bool) → ℕ → ℕ → ℕ → ℕ
counted f s a n = fold (λ c i. c + cond (f i) 1 0) s (range_with_len a n)

counted-none : (f : ℕ → Bool) (s a n : ℕ) → ((i : ℕ) → a ≤ i → i < a + n → f i ≡ false)
    → counted f s a n ≡ s
unfolding counted
counted-none f s a zero none = refl
counted-none f s a (suc n) none =
    let z : s + 0 ≡ s = omega arith in
    ap (λ (b : Bool). counted f (s + cond b 1 0) (a + 1) n) (none a (omega arith) (omega arith))
    ∙ ap (λ t. counted f t (a + 1) n) z
    ∙ counted-none f s (a + 1) n (λ i low high. none i (omega (arith, low)) (omega (arith, high)))

counted-one : (f : ℕ → Bool) (place s a n : ℕ)
    → ((i : ℕ) → a ≤ i → i < a + n → f i ≡ true → i ≡ place) → counted f s a n ≤ s + 1
unfolding counted
counted-one f place s a zero one = omega arith
counted-one f place s a (suc n) one =
    by_first (f a) refl
    (λ t. counted-one f place t (a + 1) n
    (λ i low high passes. one i (omega (arith, low)) (omega (arith, high)) passes))
  where
    other : f a ≡ true → (i : ℕ) → a + 1 ≤ i → i < a + 1 + n → (b : Bool) → f i ≡ b → f i ≡ false
    other first i low high false e = e
    other first i low high true e =
        absurd (omega (
          arith,
          low,
          one i (omega (arith, low)) (omega (arith, high)) e,
          one a (omega arith) (omega arith) first,
        ))

    by_first : (b : Bool) → f a ≡ b → ((t : ℕ) → counted f t (a + 1) n ≤ t + 1)
        → counted f (s + cond (f a) 1 0) (a + 1) n ≤ s + 1
    by_first true e next =
        let all : counted f (s + cond (f a) 1 0) (a + 1) n ≡ s + 1 =
        ap (λ (b : Bool). counted f (s + cond b 1 0) (a + 1) n) e
        ∙ counted-none f (s + 1) (a + 1) n (λ i low high. other e i low high (f i) refl) in
        omega (arith, all)
    by_first false e next =
        let z : s + 0 ≡ s = omega arith in
        let all : counted f (s + cond (f a) 1 0) (a + 1) n ≡ counted f s (a + 1) n =
        ap (λ (b : Bool). counted f (s + cond b 1 0) (a + 1) n) e
        ∙ ap (λ t. counted f t (a + 1) n) z in
        omega (arith, all, next s)

module _ (pushes : List ℤ) (place k : ℕ)
    (only : (i : ℕ) → i ≤ k → is_change pushes i ≡ true → i % 20 ≡ place) where
  -- no change stands at another place
  quiet-place : (q r m : ℕ) → m ≤ k → (q ≡ place → ⊥) → changes_at pushes q r m ≡ 0
  unfolding counted
  quiet-place q r m within other =
      counted-none (λ i. (i % 20 == q) && is_change pushes i) 0 (r + 1) (m - r)
      (λ i low high. by_test i (omega (arith, low, high, within)) (nat_eq (i % 20) q)
      (is_change pushes i) refl refl)
    where
      by_test : (i : ℕ) → i ≤ k → (b c : Bool) → nat_eq (i % 20) q ≡ b → is_change pushes i ≡ c
          → (b && c) ≡ false
      by_test i below false c e f = refl
      by_test i below true false e f = refl
      by_test i below true true e f = absurd (other (sym (eqb-true (i % 20) q e) ∙ only i below f))

  crowded-place : (r m : ℕ) → m ≤ k → (q : ℕ) → nat_le 4 (changes_at pushes q r m) ≡ true
      → q ≡ place
  crowded-place r m within q many = by_same (nat_eq q place) refl
    where
      by_same : (b : Bool) → nat_eq q place ≡ b → q ≡ place
      by_same true e = eqb-true q place e
      by_same false e =
          absurd (clash many
          (ap (nat_le 4) (quiet-place q r m within (λ same. clash (refused same) e))))
        where
          refused : q ≡ place → nat_eq q place ≡ true
          refused same = eq-eqb q place same

  not-crowded : (r m : ℕ) → m ≤ k → is_crowded pushes r m ≡ false
  unfolding counted
  not-crowded r m within =
      let few : counted (λ q. nat_le 4 (changes_at pushes q r m)) 0 0 20 ≤ 0 + 1 =
      counted-one (λ q. nat_le 4 (changes_at pushes q r m)) place 0 0 20
      (λ q low high many. crowded-place r m within q many) in
      lt-leb 2 (counted (λ q. nat_le 4 (changes_at pushes q r m)) 0 0 20) (omega (arith, few))

  reset-first : (m : ℕ) → m ≤ k → reset_up_to pushes m ≡ 0
  unfolding reset_up_to
  reset-first zero within = refl
  reset-first (suc m) within =
      rw (reset-first m (omega (arith, within)), not-crowded 0 (suc m) within) refl

  pub edge-is : is_edge pushes k ≡ (is_change pushes k && (changes_at pushes (k % 20) 0 k == 16))
  edge-is =
      ap (λ r. is_change pushes k && (changes_at pushes (k % 20) r k == 16))
      (reset-first (k - 1) (omega arith))

pub sixteenth : EdgeIsSixteenthChange
sixteenth pushes place k only = edge-is pushes place k only
