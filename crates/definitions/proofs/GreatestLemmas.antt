-- The cell that an acquisition names: no cell exceeds its power, and no earlier one has the same.
use Rattle.std.proofs.Common.{inl, inr, ◌≡◌, ℕ, zero, suc, ◌+◌, ◌<◌, ◌≤◌, refl, sym, arith}
use Rattle.std.specs.Prelude.{◌⊎◌, Bool, true, false, nat_le, Option, Some, None, unwrap_or}
use Rattle.std.specs.List.{list_all, range_with_len}
use Rattle.std.proofs.lemmas.Bool.{and_parts, and_from, leb-true, le-leb}
use Rattle.definitions.specs.Sums.{least_below}
use Rattle.definitions.specs.Acquisition.{cell_count, is_greatest, greatest_of, named_cell}
use Rattle.definitions.specs.Laws.{IsFirstGreatest, NamedCellIsGreatest}
use Rattle.definitions.proofs.SumsLemmas.{IsLeast, least_below-some, least_below-none}

-- a test of all numbers of a range, and what it says of each
pub list_all-range : (test : ℕ → Bool) (a n : ℕ) → ((k : ℕ) → a ≤ k → k < a + n → test k ≡ true)
    → list_all test (range_with_len a n) ≡ true
list_all-range test a zero each = refl
list_all-range test a (suc n) each =
    and_from (test a) (list_all test (range_with_len (a + 1) n))
    (each a (omega arith) (omega arith))
    (list_all-range test (a + 1) n
    (λ k low high. each k (omega (arith, low)) (omega (arith, high))))

pub in_range-passes : (test : ℕ → Bool) (a n : ℕ) → list_all test (range_with_len a n) ≡ true
    → (k : ℕ) → a ≤ k → k < a + n → test k ≡ true
in_range-passes test a zero e k low high = absurd (omega arith)
in_range-passes test a (suc n) e k low high =
    let both = and_parts (test a) (list_all test (range_with_len (a + 1) n)) e in
    elim (first_or_later a k low) [
      | inl same ↦ rw (sym same) both.0
      | inr later ↦ in_range-passes test (a + 1) n both.1 k later (omega (arith, high))
    ]
  where
    first_or_later : (a k : ℕ) → a ≤ k → (a ≡ k) ⊎ (a + 1 ≤ k)
    first_or_later a k low = grind arith

greatest-from : (power : ℕ → ℕ) (n cell : ℕ) → ((k : ℕ) → k < n → power k ≤ power cell)
    → is_greatest power n cell ≡ true
greatest-from power n cell most =
    list_all-range (λ k. nat_le (power k) (power cell)) 0 n
    (λ k low high. le-leb (power k) (power cell) (most k (omega (arith, high))))

greatest-means : (power : ℕ → ℕ) (n cell : ℕ) → is_greatest power n cell ≡ true → (k : ℕ) → k < n
    → power k ≤ power cell
greatest-means power n cell e k h =
    leb-true (power k) (power cell)
    (in_range-passes (λ j. nat_le (power j) (power cell)) 0 n e k (omega arith)
    (omega (arith, h)))

-- among one number or more there is a greatest
some_greatest : (power : ℕ → ℕ) (n : ℕ) → 0 < n
    → (cell : ℕ) × (cell < n) × ((k : ℕ) → k < n → power k ≤ power cell)
some_greatest power zero h = absurd (omega arith)
some_greatest power (suc zero) h = (0, lit_one, λ k below. only k below)
  where
    lit_one : 0 < suc zero
    lit_one = omega arith

    only : (k : ℕ) → k < suc zero → power k ≤ power 0
    only k below = let e : k ≡ 0 = omega arith in rw e (omega arith)
some_greatest power (suc (suc n)) h =
    let before = some_greatest power (suc n) (omega arith) in
    elim (either (power before.0) (power (suc n))) [
      | inl old ↦ (
        before.0,
        omega (arith, before.1),
        λ k below. elim (last_or_before k below)
            [ inl e ↦ rw e old | inr earlier ↦ before.2 k earlier ],
      )
      | inr new ↦ (
        suc n,
        omega arith,
        λ k below. elim (last_or_before k below)
            [ inl e ↦ rw e (omega arith) | inr earlier ↦ omega (arith, before.2 k earlier, new) ],
      )
    ]
  where
    either : (a b : ℕ) → (b ≤ a) ⊎ (a ≤ b)
    either a b = grind arith

    last_or_before : (k : ℕ) → k < suc (suc n) → (k ≡ suc n) ⊎ (k < suc n)
    last_or_before k below = grind arith

-- the least of them
first_greatest : (power : ℕ → ℕ) (n cell : ℕ) → IsLeast (is_greatest power n) n cell
    → IsFirstGreatest power n cell
first_greatest power n cell least = record {
  is_cell = least.below;
  none_exceeds = greatest-means power n cell least.passes;
  none_before =
      λ k before. below_or_not (power k) (power cell)
      (greatest-means power n cell least.passes k (omega (arith, before, least.below)))
      (λ same. refuted k before same);
}
  where
    below_or_not : (a b : ℕ) → a ≤ b → (a ≡ b → ⊥) → a < b
    below_or_not a b le other = grind (arith, other)

    refuted : (k : ℕ) → k < cell → power k ≡ power cell → ⊥
    refuted k before same =
        let also : is_greatest power n k ≡ true =
        greatest-from power n k
        (λ j below. omega
        (arith, greatest-means power n cell least.passes j below, same)) in
        let not : is_greatest power n k ≡ false = least.least k before in
        cc

found : (power : ℕ → ℕ) (n : ℕ) → 0 < n → (o : Option ℕ) → least_below (is_greatest power n) n ≡ o
    → IsFirstGreatest power n (unwrap_or o 0)
found power n some (Some cell) e =
    first_greatest power n cell (least_below-some (is_greatest power n) n cell e)
found power n some None e =
    let one = some_greatest power n some in
    let not : is_greatest power n one.0 ≡ false =
    least_below-none (is_greatest power n) n e one.0 one.1 in
    let yes : is_greatest power n one.0 ≡ true = greatest-from power n one.0 one.2 in
    cc

pub greatest_of-first : (power : ℕ → ℕ) (n : ℕ) → 0 < n
    → IsFirstGreatest power n (unwrap_or (greatest_of power n) 0)
unfolding greatest_of
greatest_of-first power n some = found power n some (least_below (is_greatest power n) n) refl

pub named-greatest : NamedCellIsGreatest
unfolding named_cell
named-greatest plan power = (
  unwrap_or (greatest_of power (cell_count plan)) 0,
  greatest_of-first power (cell_count plan) (omega arith),
  refl,
  refl,
  refl,
)
