-- The chips of 1, one after another.
use Rattle.std.proofs.Common.{inl, inr, ◌≡◌, ◌≢◌, ℕ, zero, suc, ◌+◌, ◌*◌, ◌<◌, ◌∙◌, refl, ap}
use Rattle.std.proofs.Common.{arith, length-append}
use Rattle.std.specs.Prelude.{ℤ, pos, ◌+ℤ◌, ◌==◌, true, false, cond, ◌⊎◌, List, slice_index}
use Rattle.std.specs.Prelude.{[], ◌∷◌, ◌++◌, length}
use Rattle.std.proofs.Math.ListN.{get_or-append}
use Rattle.std.proofs.Math.Seq.{get_or-append_seam}
use Rattle.std.proofs.lemmas.Int.{ints}
use Rattle.definitions.specs.Sums.{total}
use Rattle.definitions.specs.Codes.{chip}
use Rattle.definitions.proofs.SumsLemmas.{total-same}
use Rattle.ca_codes.specs.Filled.{IsTable}
use Rattle.ca_codes.proofs.BookLemmas.{before_next, chip_below_two}
use Rattle.ca_codes.specs.declared.book.TheConstants.{CODE_CHIPS}
use Rattle.acquisition.specs.Ones.{AreOnes, first_place, next_place}
use Rattle.acquisition.specs.declared.half_chip_table.TheConstants.{HALF_CHIPS}

last_or_before : (k n : ℕ) → k < n + 1 → (k ≡ n) ⊎ (k < n)
last_or_before k n h = grind arith

-- whether a chip is 1, by its mask in a table of the code
pub record IsInTable (prn k mask : ℕ) : Type 0 where
  pub one : mask ≡ 255 → (chip prn k == 1) ≡ true
  pub nought : mask ≢ 255 → (chip prn k == 1) ≡ false

pub in_table : (prn k : ℕ) (table : List ℕ) → IsTable prn table → k < CODE_CHIPS
    → IsInTable prn k (slice_index table (k + 1))
unfolding IsTable
in_table prn k table is inside =
    let mask : slice_index table (k + 1) ≡ 255 * chip prn k =
    is (k + 1) (omega (arith, inside)) ∙ ap (λ (n : ℕ). 255 * n) (before_next prn k) in
    let small = chip_below_two prn k in
    record {
      one = λ all. let e : chip prn k ≡ 1 = omega (arith, mask, all) in rw e refl;
      nought = λ other.
          let e : chip prn k ≡ 0 = none (chip prn k) small (λ all. other (mask ∙ all)) in
          rw e refl;
    }
  where
    none : (c : ℕ) → c < 2 → 255 * c ≢ 255 → c ≡ 0
    none zero h not = refl
    none (suc zero) h not = absurd (not refl)
    none (suc (suc c)) h not = absurd (omega (arith, h))

-- a list with one more entry
total_pushed : (g : ℕ → ℤ) (xs : List ℕ) (x : ℕ)
    → total (λ k. g (slice_index (xs ++ x ∷ []) k)) (length (xs ++ x ∷ []))
    ≡ total (λ k. g (slice_index xs k)) (length xs) +ℤ g x
unfolding total
total_pushed g xs x =
    let long : length (xs ++ x ∷ []) ≡ suc (length xs) = length-append xs (x ∷ []) ∙ one in
    rw (
      long,
      total-same (λ k. g (slice_index (xs ++ x ∷ []) k)) (λ k. g (slice_index xs k)) (length xs)
          (λ k h. ap g (get_or-append xs (x ∷ []) 0 k h)),
      get_or-append_seam xs x [] 0,
    ) refl
  where
    one : length xs + 1 ≡ suc (length xs)
    one = omega arith

-- and all of its entries below a bound
all_below : (xs : List ℕ) (x : ℕ) → ((k : ℕ) → k < length xs → slice_index xs k < HALF_CHIPS)
    → x < HALF_CHIPS
    → (k : ℕ) → k < length (xs ++ x ∷ []) → slice_index (xs ++ x ∷ []) k < HALF_CHIPS
all_below xs x before last k h = elim (last_or_before k (length xs)
    (omega (arith, h, length-append xs (x ∷ [])))) [
      | inl same ↦ rw (same, get_or-append_seam xs x [] 0) last
      | inr inside ↦ rw (get_or-append xs (x ∷ []) 0 k inside) (before k inside)
    ]

-- the ones among no chips, and with one more chip: one of 0
pub ones-none : (prn : ℕ) → AreOnes prn 0 [] []
unfolding total
ones-none prn = record {
  few = omega arith;
  alone_below = λ k h. absurd (omega (arith, h));
  twos_below = λ k h. absurd (omega (arith, h));
  sums = λ y. refl;
}

pub ones-nought : (prn n : ℕ) (alone twos : List ℕ) → AreOnes prn n alone twos
    → (chip prn n == 1) ≡ false → AreOnes prn (n + 1) alone twos
unfolding total
ones-nought prn n alone twos are nought =
    let e : n + 1 ≡ suc n = omega arith in
    record {
      few = omega (arith, are.few);
      alone_below = are.alone_below;
      twos_below = are.twos_below;
      sums = λ y. rw (e, nought, are.sums y)
          (no_more (total (λ c. cond (chip prn c == 1) (y (first_place c)) (pos 0)) n));
    }
  where
    no_more : (z : ℤ) → z ≡ z +ℤ pos 0
    no_more z = omega (arith, ints)

-- one of 1 that is taken alone
pub ones-alone : (prn n : ℕ) (alone twos : List ℕ) → AreOnes prn n alone twos
    → (chip prn n == 1) ≡ true → AreOnes prn (n + 1) (alone ++ first_place n ∷ []) twos
unfolding total
ones-alone prn n alone twos are one =
    let e : n + 1 ≡ suc n = omega arith in
    let place : ℕ = first_place n in
    record {
      few = omega (arith, are.few, length-append alone (place ∷ []));
      alone_below = all_below alone place are.alone_below (omega arith);
      twos_below = are.twos_below;
      sums = λ y. rw (total_pushed y alone place, e, one, ← are.sums y)
          (moved (total (λ k. y (slice_index alone k)) (length alone)) (y place)
          (total (λ k. y (slice_index twos k) +ℤ y (next_place (slice_index twos k)))
          (length twos)));
    }
  where
    moved : (a b c : ℤ) → a +ℤ b +ℤ c ≡ a +ℤ c +ℤ b
    moved a b c = omega (arith, ints)

-- two of 1
pub ones-two : (prn n : ℕ) (alone twos : List ℕ) → AreOnes prn n alone twos → n + 1 < CODE_CHIPS
    → (chip prn n == 1) ≡ true → (chip prn (n + 1) == 1) ≡ true
    → AreOnes prn (n + 2) alone (twos ++ first_place n ∷ [])
unfolding total
ones-two prn n alone twos are below one next =
    let e : n + 2 ≡ suc (suc n) = omega arith in
    let f : suc n ≡ n + 1 = omega arith in
    let place : ℕ = first_place n in
    let there : next_place (first_place n) ≡ first_place (n + 1) = omega (arith, below) in
    record {
      few = omega (arith, are.few, length-append twos (place ∷ []));
      alone_below = are.alone_below;
      twos_below = all_below twos place are.twos_below (omega arith);
      sums = λ y. rw (
        total_pushed (λ p. y p +ℤ y (next_place p)) twos place,
        there,
        e,
        one,
        f,
        next,
        ← are.sums y,
      ) (moved (total (λ k. y (slice_index alone k)) (length alone))
          (total (λ k. y (slice_index twos k) +ℤ y (next_place (slice_index twos k))) (length twos))
          (y place) (y (first_place (n + 1))));
    }
  where
    moved : (a b c d : ℤ) → a +ℤ (b +ℤ (c +ℤ d)) ≡ a +ℤ b +ℤ c +ℤ d
    moved a b c d = omega (arith, ints)
