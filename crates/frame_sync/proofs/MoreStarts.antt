-- What one more bit adds to the starts: the place 60 bits before the end, where it is a candidate
-- and awaited.
use Rattle.std.proofs.Common.{inl, inr, ◌≡◌, ◌≢◌, ℕ, zero, suc, ◌+◌, ◌-◌, ◌<◌, ◌≤◌, List, [], ◌∷◌}
use Rattle.std.proofs.Common.{◌++◌, length, refl, ap, ◌∙◌, arith, length-append}
use Rattle.std.specs.Prelude.{Bool, true, false, Option, Some, None, ◌&&◌, nat_le, cond, ◌⊎◌}
use Rattle.std.proofs.lemmas.Bool.{and_parts, and_left, and_right, leb-true, lt-leb, cases_lt}
use Rattle.std.proofs.lemmas.Bool.{cases_eq}
use Rattle.definitions.specs.Sums.{least_below}
use Rattle.definitions.specs.Frames.{is_candidate, candidate_from, starts_from, starts_of}
use Rattle.definitions.specs.Frames.{is_header, prior_at, checked_at, number_at}
use Rattle.definitions.proofs.SumsLemmas.{least_below-some, least_below-none, least_below-none_is}
use Rattle.definitions.proofs.SumsLemmas.{least_below-is, least_below-more}
use Rattle.definitions.proofs.StartLemmas.{is_candidate-append, candidate_from-append}

grown : (test : ℕ → Bool) (n m k : ℕ) → least_below test n ≡ Some k
    → least_below test (m + n) ≡ Some k
grown test n zero k e = let f : 0 + n ≡ n = omega arith in rw f e
grown test n (suc m) k e =
    let f : suc m + n ≡ suc (m + n) = omega arith in
    rw f (least_below-more test (m + n) k (grown test n m k e))

-- a test that passes at one place at most
least_of_one : (test : ℕ → Bool) (n k : ℕ) → k < n → ((j : ℕ) → j ≢ k → test j ≡ false)
    → least_below test n ≡ cond (test k) (Some k) None
least_of_one test n k below others = by_test (test k) refl
  where
    by_test : (b : Bool) → test k ≡ b → least_below test n ≡ cond b (Some k) None
    by_test true e =
        let all : n ≡ (n - suc k) + suc k = omega arith in
        rw all (grown test (suc k) (n - suc k) k
        (least_below-is test k e (λ j h. others j (omega arith))))
    by_test false e =
        least_below-none_is test n
        (λ j h. elim (cases_eq j k)
        [ inl same ↦ ap test same ∙ e | inr other ↦ others j other ])

pub candidate-within : (bits : List Bool) (n : ℕ) → is_candidate bits n ≡ true
    → n + 60 ≤ length bits
unfolding is_candidate
candidate-within bits n e = leb-true (n + 60) (length bits) (and_parts _ _ (and_parts _ _ e).0).1

pub candidate-second : (bits : List Bool) (n : ℕ) → is_candidate bits n ≡ true → 2 ≤ n
unfolding is_candidate
candidate-second bits n e = leb-true 2 n (and_parts _ _ (and_parts _ _ e).0).0

past : (bits : List Bool) (n : ℕ) → length bits < n + 60 → is_candidate bits n ≡ false
unfolding is_candidate
past bits n far =
    and_left (nat_le 2 n && nat_le (n + 60) (length bits))
    (is_header (prior_at bits n) (checked_at bits n) (checked_at bits (n + 30))
    (number_at bits (n + 58) 2))
    (and_right (nat_le 2 n) (nat_le (n + 60) (length bits)) (lt-leb (n + 60) (length bits) far))

-- the place that is awaited after these starts
abbrev pub next_behind : ℕ → List ℕ → ℕ
next_behind from [] = from
next_behind from (n ∷ ns) = next_behind (n + 300) ns

module _ (bits : List Bool) (bit : Bool) where
  abbrev pub longer : List Bool
  longer = bits ++ bit ∷ []

  -- where a header that ends with the last bit begins
  abbrev pub place : ℕ
  place = length bits + 1 - 60

  abbrev pub is_start : ℕ → Bool
  is_start from = nat_le from place && is_candidate longer place

  abbrev pub added : ℕ → List ℕ
  added from = cond (is_start from) (place ∷ []) []

  pub length-longer : length longer ≡ length bits + 1
  length-longer = length-append bits (bit ∷ [])

  none_from : (from : ℕ) → length bits + 1 < from + 60 → candidate_from longer from ≡ None
  none_from from far =
      least_below-none_is (λ j. nat_le from j && is_candidate longer j) (length longer)
      (λ j h. by_place j (cases_lt j from))
    where
      by_place : (j : ℕ) → ((j < from) ⊎ (from ≤ j))
          → (nat_le from j && is_candidate longer j) ≡ false
      by_place j (inl before) =
          and_left (nat_le from j) (is_candidate longer j) (lt-leb from j before)
      by_place j (inr behind) =
          and_right (nat_le from j) (is_candidate longer j)
          (past longer j (omega (arith, length-longer)))

  none_behind : (k from : ℕ) → length bits + 1 < from + 60 → starts_from longer k from ≡ []
  unfolding starts_from
  none_behind zero from far = refl
  none_behind (suc k) from far = rw (none_from from far, starts_from) refl

  -- where there was none, the last bit can make one
  candidate_from-one : (from : ℕ) → candidate_from bits from ≡ None
      → candidate_from longer from ≡ cond (is_start from) (Some place) None
  candidate_from-one from none =
      least_of_one (λ j. nat_le from j && is_candidate longer j) (length longer) place
      (omega (arith, length-longer))
      (λ j other. by_place j other (cases_lt (length bits) (j + 60)))
    where
      by_place : (j : ℕ) → j ≢ place → ((length bits < j + 60) ⊎ (j + 60 ≤ length bits))
          → (nat_le from j && is_candidate longer j) ≡ false
      by_place j other (inl behind) =
          and_right (nat_le from j) (is_candidate longer j)
          (past longer j (omega (arith, length-longer)))
      by_place j other (inr before) =
          ap (λ (b : Bool). nat_le from j && b) (is_candidate-append bits (bit ∷ []) j before)
          ∙ least_below-none (λ k. nat_le from k && is_candidate bits k) (length bits) none j
          (omega arith)

  candidate-at_or_behind : (from n : ℕ) → candidate_from bits from ≡ Some n → from ≤ n
  candidate-at_or_behind from n e =
      let l = least_below-some (λ k. nat_le from k && is_candidate bits k) (length bits) n e in
      leb-true from n (and_parts (nat_le from n) (is_candidate bits n) l.passes).0

  starts_from-none : (k from : ℕ) → candidate_from bits from ≡ None
      → starts_from longer (suc k) from ≡ added from
  unfolding starts_from
  starts_from-none k from none =
      rw (candidate_from-one from none, starts_from) (by_test (is_start from))
    where
      by_test : (b : Bool)
          → elim (cond b (Some place) None)
          [ Some n ↦ n ∷ starts_from longer k (n + 300) | None ↦ [] ] ≡ cond b (place ∷ []) []
      by_test true = ap (λ (ns : List ℕ). place ∷ ns) (none_behind k (place + 300) (omega arith))
      by_test false = refl

  none_at_end : (from : ℕ) → length bits ≤ from → candidate_from bits from ≡ None
  none_at_end from far =
      least_below-none_is (λ j. nat_le from j && is_candidate bits j) (length bits)
      (λ j h. and_left (nat_le from j) (is_candidate bits j) (lt-leb from j (omega arith)))

  starts_from-more : (k from : ℕ) → length bits ≤ from + k
      → starts_from longer (suc k) from
      ≡ starts_from bits k from ++ added (next_behind from (starts_from bits k from))
  unfolding starts_from
  starts_from-more zero from fuel = starts_from-none zero from (none_at_end from (omega arith))
  starts_from-more (suc k) from fuel =
      by_candidate (candidate_from bits from) refl (λ f h. starts_from-more k f h)
    where
      by_candidate : (o : Option ℕ) → candidate_from bits from ≡ o
          → ((f : ℕ) → length bits ≤ f + k
          → starts_from longer (suc k) f
          ≡ starts_from bits k f ++ added (next_behind f (starts_from bits k f)))
          → starts_from longer (suc (suc k)) from
          ≡ starts_from bits (suc k) from
          ++ added (next_behind from (starts_from bits (suc k) from))
      by_candidate None e next = rw (starts_from-none (suc k) from e, e, starts_from) refl
      by_candidate (Some n) e next =
          let behind : from ≤ n = candidate-at_or_behind from n e in
          rw (candidate_from-append bits (bit ∷ []) from n e, e, starts_from)
          (ap (λ (ns : List ℕ). n ∷ ns) (next (n + 300) (omega (arith, fuel, behind))))

  pub starts_of-more : starts_of longer ≡ starts_of bits ++ added (next_behind 0 (starts_of bits))
  unfolding starts_of
  starts_of-more =
      let long : length longer ≡ suc (length bits) = omega (arith, length-longer) in
      ap (λ k. starts_from longer k 0) long ∙ starts_from-more (length bits) 0 (omega arith)
