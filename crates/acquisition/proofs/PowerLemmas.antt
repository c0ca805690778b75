-- Samples that are held, and the powers of periods, which add up.
use Rattle.std.proofs.Common.{inl, inr, ◌≡◌, ℕ, ◌+◌, ◌-◌, ◌*◌, ◌<◌, ◌≤◌, List, map, length, refl}
use Rattle.std.proofs.Common.{sym, subst, ◌∙◌, arith}
use Rattle.std.specs.Prelude.{pos, get_or, slice_index, ◌⊎◌}
use Rattle.std.specs.List.{range_with_len}
use Rattle.std.proofs.Math.Nat.{mul-le-mul_right}
use Rattle.std.proofs.Math.ListN.{replicate, set}
use Rattle.std.proofs.lemmas.List.{get_or-replicate, get_or-set_same, get_or-set_other}
use Rattle.std.proofs.lemmas.List.FromFn.{get_or-map-range_with_len, length-map-range_with_len}
use Rattle.definitions.specs.Samples.{Sample, sample_at, real}
use Rattle.definitions.specs.Correlation.{Replica}
use Rattle.definitions.specs.Acquisition.{power_over}
use Rattle.acquisition.specs.Replicas.{power_of_periods}
use Rattle.acquisition.proofs.TallyLemmas.{sum_more}

-- values at offsets k, k + 1, .. are those of another beginning, at 0, 1, ..
abbrev pub AreFrom : {A : Type 0} → ℕ → ℕ → (ℕ → A) → (ℕ → A) → Type 0
AreFrom k n f g = (j : ℕ) → j < n → f j ≡ g (k + j)

-- n samples of those that are held, from number first on
pub held_run : (held : ℕ → Sample) (first n : ℕ) (ys : List Sample) → ys
    ≡ map held (range_with_len first n) → (j : ℕ) → j < n → sample_at ys j ≡ held (first + j)
held_run held first n ys is j h = rw is (get_or-map-range_with_len held first n j (first + j)
    (real (pos 0)) h refl)

pub run_length : (held : ℕ → Sample) (first n : ℕ) (ys : List Sample) → ys
    ≡ map held (range_with_len first n) → length ys ≡ n
run_length held first n ys is = rw is (length-map-range_with_len held first n)

-- the power over no period, and over one more
pub power-none : (x : ℕ → Sample) (r : Replica) (long : ℕ) → 0 ≡ power_of_periods x r long 0
unfolding power_of_periods
power-none x r long = refl

pub power-more : (x : ℕ → Sample) (r : Replica) (long n power more : ℕ)
    → power ≡ power_of_periods x r long n
    → more ≡ power_over x r (n * long) (n * long + long)
    → power + more ≡ power_of_periods x r long (n + 1)
unfolding power_of_periods
power-more x r long n power more before is =
    let e : n * long + long ≡ (n + 1) * long = omega arith in
    let last : more ≡ power_over x r (n * long) ((n + 1) * long) = is ∙ rw e refl in
    rw (before, last) (sym (sum_more (λ k. power_over x r (k * long) ((k + 1) * long)) n))

-- a period within the dwell
pub period-held : (held x : ℕ → Sample) (start first long n periods : ℕ) → first ≡ start + n * long
    → n < periods → ((j : ℕ) → j < periods * long → held (start + j) ≡ x j)
    → AreFrom (n * long) long (λ j. held (first + j)) x
period-held held x start first long n periods is inside same j h =
    let whole : (n + 1) * long ≤ periods * long = mul-le-mul_right long
    (period_next n periods inside) in
    let f : first + j ≡ start + (n * long + j) = omega (arith, is) in
    rw f (same (n * long + j) (omega (arith, h, whole)))
  where
    period_next : (n periods : ℕ) → n < periods → n + 1 ≤ periods
    period_next n periods inside = omega (arith, inside)

-- powers of which none was added yet
pub none_yet : (n i : ℕ) → i < n → get_or {A = ℕ} (replicate n 0) i 0 ≡ 0
none_yet n i h = get_or-replicate {A = ℕ} n i 0 0 h

pub last_or_before : (j k : ℕ) → j < k + 1 → (j ≡ k) ⊎ (j < k)
last_or_before j k h = grind arith

pub apart_before : (j k : ℕ) → j < k → j ≡ k → ⊥
apart_before j k h e = absurd (omega (arith, h, e))

-- the first n of a list of powers each have a property
abbrev pub AreEach : (ℕ → ℕ → Type 0) → ℕ → List ℕ → Type 0
AreEach property n powers = (i : ℕ) → i < n → property i (slice_index powers i)

pub each-none : (property : ℕ → ℕ → Type 0) (powers : List ℕ) → AreEach property 0 powers
each-none property powers i h = absurd (omega (arith, h))

pub each-one : (property : ℕ → ℕ → Type 0) (n power : ℕ) (powers : List ℕ) → n < length powers
    → property n power → AreEach property n powers → AreEach property (n + 1) (set powers n power)
each-one property n power powers inside has each i h = elim (last_or_before i n h) [
  | inl same ↦
      subst (λ (k : ℕ). property k (slice_index (set powers n power) k)) (sym same)
      (subst (λ (it : ℕ). property n it) (sym (get_or-set_same powers n power 0 inside)) has)
  | inr before ↦
      subst (λ (it : ℕ). property i it)
      (sym (get_or-set_other powers n i power 0 (apart_before i n before))) (each i before)
]

pub each-sixteen : (property : ℕ → ℕ → Type 0) (n : ℕ) (old new sixteen : List ℕ)
    → ((l : ℕ) → l < 16 → slice_index new (n + l) ≡ slice_index sixteen l)
    → ((i : ℕ) → i < n → slice_index new i ≡ slice_index old i)
    → ((l : ℕ) → l < 16 → property (n + l) (slice_index sixteen l))
    → AreEach property n old → AreEach property (n + 16) new
each-sixteen property n old new sixteen there before are each i h = elim (before_or_there i n) [
  | inl early ↦ subst (λ (power : ℕ). property i power) (sym (before i early)) (each i early)
  | inr late ↦
      let l : ℕ = i - n in
      let few : l < 16 = omega (arith, late, h) in
      let at : n + l ≡ i = omega (arith, late) in
      subst (λ (k : ℕ). property k (slice_index new k)) at
      (subst (λ (power : ℕ). property (n + l) power) (sym (there l few)) (are l few))
]
  where
    before_or_there : (i n : ℕ) → (i < n) ⊎ (n ≤ i)
    before_or_there i n = grind arith
