-- Tables of values that are added up by place.
use Rattle.std.proofs.Common.{inl, inr, ◌≡◌, ℕ, zero, suc, ◌+◌, ◌/◌, ◌<◌, ◌≤◌, refl, sym}
use Rattle.std.proofs.Common.{◌∙◌, ap}
use Rattle.std.proofs.Common.{arith, to_z, of_z, w32, FitsSigned}
use Rattle.std.specs.Prelude.{ℤ, pos, negsuc, ◌+ℤ◌, ◌*ℤ◌, ◌==◌, Bool, true, false, cond, ◌⊎◌}
use Rattle.std.specs.Prelude.{List, get_or, unsigned_abs, length}
use Rattle.std.proofs.Math.ListN.{replicate, set}
use Rattle.std.proofs.lemmas.Int.{ints, fits_signed_from_abs}
use Rattle.std.proofs.lemmas.Bool.{eq-eqb, cases_lt}
use Rattle.std.proofs.lemmas.List.{get_or-replicate, get_or-set_same, get_or-set_other}
use Rattle.definitions.specs.Sums.{total}
use Rattle.definitions.proofs.SumsLemmas.{total-same, total-split}
use Rattle.definitions.specs.Codes.{chip_sign}
use Rattle.acquisition.specs.Folds.{sum_at_key, half_chip_at, IsTable, total_to}
use Rattle.acquisition.specs.Folds.{sizes_to}
use Rattle.acquisition.specs.Folds.{correlation_to}
use Rattle.acquisition.specs.declared.half_chip_table.TheConstants.{HALF_CHIPS}
use Rattle.acquisition.specs.declared.sums.TheConstants.{MOST_PERIOD_SUM}
use Rattle.acquisition.proofs.SizeLemmas.{abs_add}
use Rattle.acquisition.proofs.FoldLemmas.{entry_in_32}
use Rattle.acquisition.proofs.SignLemmas.{sign_cases}

-- a table whose entries are all the same
pub all_same : (n k : ℕ) (z : ℤ) → k < n → get_or (replicate n z) k (pos 0) ≡ z
all_same n k z h = get_or-replicate {A = ℤ} n k z (pos 0) h

-- a table of no values, and of one more
pub table-none : (y : ℕ → ℤ) (step from : ℕ) (table : List ℤ)
    → ((k : ℕ) → k < HALF_CHIPS → get_or table k (pos 0) ≡ pos 0) → IsTable y step from 0 table
unfolding sum_at_key total
table-none y step from table none k h = none k h

pub none_is : (y : ℕ → ℤ) (step from : ℕ) (table : List ℤ) → IsTable y step from 0 table
    → (k : ℕ) → k < HALF_CHIPS → get_or table k (pos 0) ≡ pos 0
unfolding sum_at_key total
none_is y step from table is k h = is k h

-- a table with values more, which lie at one place
cond_total : (here : Bool) (f : ℕ → ℤ) (n : ℕ)
    → total (λ i. cond here (f i) (pos 0)) n ≡ cond here (total f n) (pos 0)
unfolding total
cond_total true f n = refl
cond_total false f zero = refl
cond_total false f (suc n) = rw (cond_total false f n) (omega (arith, ints))

pub table_more : (y : ℕ → ℤ) (step from n len place : ℕ) (sum : ℤ) (old new : List ℤ)
    → IsTable y step from n old
    → ((i : ℕ) → i < len → half_chip_at step (from + (n + i)) ≡ place)
    → sum ≡ total (λ i. y (from + (n + i))) len
    → ((k : ℕ) → k < HALF_CHIPS → get_or new k (pos 0)
    ≡ get_or old k (pos 0) +ℤ cond (place == k) sum (pos 0))
    → IsTable y step from (n + len) new
unfolding sum_at_key
table_more y step from n len place sum old new is at same more k h =
    let value : ℕ → ℤ = λ i. cond (half_chip_at step (from + i) == k) (y (from + i)) (pos 0) in
    more k h ∙ rw (is k h, same) (sym (total-split value n len
    ∙ ap (λ (z : ℤ). total value n +ℤ z) (total-same (λ i. value (n + i))
    (λ i. cond (place == k) (y (from + (n + i))) (pos 0)) len
    (λ i below. ap (λ (p : ℕ). cond (p == k) (y (from + (n + i))) (pos 0)) (at i below))
    ∙ cond_total (place == k) (λ i. y (from + (n + i))) len)))

-- the sizes of a table's entries
pub sizes-none : (table : List ℤ) (n : ℕ)
    → ((k : ℕ) → k < n → get_or table k (pos 0) ≡ pos 0) → sizes_to table n ≡ 0
unfolding sizes_to
sizes-none table zero none = refl
sizes-none table (suc n) none =
    rw (sizes-none table n (λ k h. none k (omega arith)), none n (omega arith)) refl

pub sizes-first : (table : List ℤ) → sizes_to table 0 ≡ 0
unfolding sizes_to
sizes-first table = refl

pub sizes-next : (table : List ℤ) (k : ℕ)
    → sizes_to table (k + 1) ≡ sizes_to table k + unsigned_abs (get_or table k (pos 0))
unfolding sizes_to
sizes-next table k = let e : k + 1 ≡ suc k = omega arith in rw e refl

pub sizes-within : (table : List ℤ) (k n : ℕ) → k ≤ n → sizes_to table k ≤ sizes_to table n
unfolding sizes_to
sizes-within table k zero h = let e : k ≡ 0 = omega (arith, h) in rw e (omega arith)
sizes-within table k (suc n) h = elim (within_or_all k n h) [
  | inl before ↦ omega (arith, sizes-within table k n before)
  | inr all ↦ rw all (omega arith)
]
  where
    within_or_all : (k n : ℕ) → k ≤ suc n → (k ≤ n) ⊎ (k ≡ suc n)
    within_or_all k n h = grind arith

pub size_of_one : (table : List ℤ) (k n : ℕ) → k < n
    → unsigned_abs (get_or table k (pos 0)) ≤ sizes_to table n
unfolding sizes_to
size_of_one table k zero h = absurd (omega (arith, h))
size_of_one table k (suc n) h = elim (cases_lt k n) [
  | inl before ↦ omega (arith, size_of_one table k n before)
  | inr last ↦ let e : k ≡ n = omega (arith, h, last) in rw e (omega arith)
]

-- one entry changed by a value
sizes-same : (old new : List ℤ) (place n : ℕ) (value : ℤ) → n ≤ place
    → ((k : ℕ) → k < n → get_or new k (pos 0)
    ≡ get_or old k (pos 0) +ℤ cond (place == k) value (pos 0))
    → sizes_to new n ≡ sizes_to old n
unfolding sizes_to
sizes-same old new place zero value before more = refl
sizes-same old new place (suc n) value before more =
    let other : (place == n) ≡ false = apart place n (omega (arith, before)) in
    let e : get_or new n (pos 0) ≡ get_or old n (pos 0) = more n (omega arith)
    ∙ rw other (unchanged (get_or old n (pos 0))) in
    rw (
      sizes-same old new place n value (omega (arith, before)) (λ k h. more k (omega (arith, h))),
      e,
    ) refl
  where
    apart : (a b : ℕ) → b < a → (a == b) ≡ false
    apart a b h = grind arith

    unchanged : (z : ℤ) → z +ℤ pos 0 ≡ z
    unchanged z = omega (arith, ints)

pub sizes-more : (old new : List ℤ) (place n : ℕ) (value : ℤ)
    → ((k : ℕ) → k < n → get_or new k (pos 0)
    ≡ get_or old k (pos 0) +ℤ cond (place == k) value (pos 0))
    → sizes_to new n ≤ sizes_to old n + unsigned_abs value
unfolding sizes_to
sizes-more old new place zero value more = omega arith
sizes-more old new place (suc n) value more = elim (three place n) [
  | inl same ↦ let here : get_or new n (pos 0) ≡ get_or old n (pos 0) +ℤ value =
      more n (omega arith) ∙ rw (same, eq-eqb n n refl) refl in
      let below : sizes_to new n ≡ sizes_to old n =
      sizes-same old new place n value (omega (arith, same)) (λ k h. more k (omega (arith, h))) in
      rw (below, here) (omega (arith, abs_add (get_or old n (pos 0)) value))
  | inr other ↦ let here : get_or new n (pos 0) ≡ get_or old n (pos 0) =
      more n (omega arith) ∙ rw other (unchanged (get_or old n (pos 0))) in
      rw here (omega (arith, sizes-more old new place n value (λ k h. more k (omega (arith, h)))))
]
  where
    three : (a b : ℕ) → (a ≡ b) ⊎ ((a == b) ≡ false)
    three a b = grind arith

    unchanged : (z : ℤ) → z +ℤ pos 0 ≡ z
    unchanged z = omega (arith, ints)

-- the sum of the first entries
pub total_to-none : (table : List ℤ) → total_to table 0 ≡ pos 0
unfolding total_to total
total_to-none table = refl

pub total_to-more : (table : List ℤ) (k : ℕ)
    → total_to table (k + 1) ≡ total_to table k +ℤ get_or table k (pos 0)
unfolding total_to total
total_to-more table k = let e : k + 1 ≡ suc k = omega arith in rw e refl

pub total_to-zeros : (table : List ℤ) (n : ℕ)
    → ((k : ℕ) → k < n → get_or table k (pos 0) ≡ pos 0) → total_to table n ≡ pos 0
unfolding total_to total
total_to-zeros table zero zeros = refl
total_to-zeros table (suc n) zeros =
    rw (total_to-zeros table n (λ k h. zeros k (omega arith)), zeros n (omega arith)) refl

pub correlation-none : (prn first : ℕ) (table : List ℤ) → correlation_to prn first table 0 ≡ pos 0
unfolding correlation_to total
correlation-none prn first table = refl

pub correlation-more : (prn first k : ℕ) (table : List ℤ)
    → correlation_to prn first table (k + 1)
    ≡ correlation_to prn first table k +ℤ get_or table k (pos 0) *ℤ chip_sign prn ((first + k) / 2)
unfolding correlation_to total
correlation-more prn first k table = let e : k + 1 ≡ suc k = omega arith in rw e refl

-- a product with a sign has the size of the other factor
signed_size : (y s : ℤ) → (s ≡ pos 1) ⊎ (s ≡ negsuc 0) → unsigned_abs (y *ℤ s) ≤ unsigned_abs y
signed_size y s cases = elim cases [
  | inl one ↦ rw one (by_one y)
  | inr less ↦ rw less (by_one_less y)
]
  where
    by_one : (y : ℤ) → unsigned_abs (y *ℤ pos 1) ≤ unsigned_abs y
    by_one y = omega (arith, ints)

    by_one_less : (y : ℤ) → unsigned_abs (y *ℤ negsuc 0) ≤ unsigned_abs y
    by_one_less y = omega (arith, ints)

pub correlation_size : (prn first n : ℕ) (table : List ℤ)
    → unsigned_abs (correlation_to prn first table n) ≤ sizes_to table n
unfolding correlation_to total sizes_to
correlation_size prn first zero table = omega arith
correlation_size prn first (suc n) table =
    let term : ℤ = get_or table n (pos 0) *ℤ chip_sign prn ((first + n) / 2) in
    omega (
      arith,
      abs_add (correlation_to prn first table n) term,
      correlation_size prn first n table,
      signed_size (get_or table n (pos 0)) (chip_sign prn ((first + n) / 2))
          (sign_cases prn ((first + n) / 2)),
    )

pub total_size : (n : ℕ) (table : List ℤ) → unsigned_abs (total_to table n) ≤ sizes_to table n
unfolding total_to total sizes_to
total_size zero table = omega arith
total_size (suc n) table = omega (
  arith,
  abs_add (total_to table n) (get_or table n (pos 0)),
  total_size n table,
)

-- an entry in 32 bits
pub entry-kept : (table : List ℤ) (k : ℕ) → k < HALF_CHIPS
    → sizes_to table HALF_CHIPS ≤ MOST_PERIOD_SUM
    → to_z w32 (of_z w32 (get_or table k (pos 0))) ≡ get_or table k (pos 0)
entry-kept table k h small = entry_in_32 (get_or table k (pos 0))
    (omega (arith, size_of_one table k HALF_CHIPS h, small))

-- an entry and a value added to it, in 32 bits
pub record AddsUp (entry value : ℤ) : Type 0 where
  pub fits : FitsSigned w32 (to_z w32 (of_z w32 entry) +ℤ to_z w32 (of_z w32 value))
  pub is : to_z w32 (of_z w32 (to_z w32 (of_z w32 entry) +ℤ to_z w32 (of_z w32 value)))
      ≡ entry +ℤ value

pub adds_up : (table : List ℤ) (place : ℕ) (sum : ℤ) → place < HALF_CHIPS
    → sizes_to table HALF_CHIPS + unsigned_abs sum ≤ MOST_PERIOD_SUM
    → AddsUp (get_or table place (pos 0)) sum
adds_up table place sum inside room =
    let entry : ℤ = get_or table place (pos 0) in
    let most : unsigned_abs (entry +ℤ sum) ≤ MOST_PERIOD_SUM =
    omega (arith, abs_add entry sum, size_of_one table place HALF_CHIPS inside, room) in
    let kept = entry-kept table place inside (omega (arith, room)) in
    let same = entry_in_32 sum (omega (arith, room)) in
    record {
      fits = rw (kept, same) (fits_signed_from_abs w32 (entry +ℤ sum) (omega (arith, most)));
      is = rw (kept, same) (entry_in_32 (entry +ℤ sum) most);
    }

-- a table with a value added to an entry
pub entry_set : (table : List ℤ) (place k : ℕ) (entry value : ℤ) → place < HALF_CHIPS
    → length table ≡ HALF_CHIPS → entry ≡ get_or table place (pos 0) +ℤ value
    → get_or (set table place entry) k (pos 0)
    ≡ get_or table k (pos 0) +ℤ cond (place == k) value (pos 0)
entry_set table place k entry value h long is = elim (three place k) [
  | inl same ↦ rw (same, eq-eqb k k refl) (get_or-set_same table k entry (pos 0)
      (rw long (rw same at h)) ∙ rw same at is)
  | inr other ↦ get_or-set_other table place k entry (pos 0) (apart place k other)
      ∙ rw other (unchanged (get_or table k (pos 0)))
]
  where
    three : (a b : ℕ) → (a ≡ b) ⊎ ((a == b) ≡ false)
    three a b = grind arith

    apart : (a b : ℕ) → (a == b) ≡ false → b ≡ a → ⊥
    apart a b other same = grind arith

    unchanged : (z : ℤ) → z ≡ z +ℤ pos 0
    unchanged z = omega (arith, ints)
