-- Comparisons of halves in lanes.
use Rattle.std.proofs.Common.{◌≡◌, ℕ, zero, suc, ◌<◌, ◌≤◌, List, map, [], ◌∷◌}
use Rattle.std.proofs.Common.{length, ℤ, pos, of_z, FitsSigned, rules}
use Rattle.std.proofs.Common.{get_or, refl, sym, ◌∙◌, arith, Bool, true, false, inl, inr, replicate}
use Rattle.std.proofs.Common.{w16, to_z}
use Rattle.std.specs.Prelude.{cond, ltb, leb, ◌⊎◌}
use Rattle.std.proofs.lemmas.Bool.Decides.{leb_tells}
use Rattle.std.specs.Int.Signed.{lt_z}
use Rattle.std.specs.Simd.Lanes.{zip2, top, sel_l, Each1}
use Rattle.std.proofs.lemmas.Simd.{tops_compared, get_or-zip2, length-zip2, get_or-sel_l}
use Rattle.std.proofs.lemmas.Simd.{length-sel_l}
use Rattle.std.proofs.lemmas.Int.{to_z-of_z, ints}
use Rattle.std.proofs.lemmas.List.{get_or-map, get_or-replicate, length-map}
use Rattle.std.proofs.lemmas.Bool.{cases_lt, lt-ltb, le-ltb}
use Rattle.oscillators.specs.Halves.{signed_half, AreRooms}
use Rattle.oscillators.proofs.OrderLemmas.{place, place_below, ordered, ordered_lane}

-- a comparison with signs
abbrev pub below : ℕ → ℕ → Bool
below a b = lt_z (to_z w16 a) (to_z w16 b)

-- a number in each lane that is below another number, and 0 in the others
abbrev pub marked : ℕ → ℕ → List ℕ → List ℕ
marked mark number xs =
    sel_l (map (top 15) (zip2 (λ (a b : ℕ). cond (below a b) 65535 0) xs (replicate 64 number)))
    (replicate 64 mark) (replicate 64 0)

compared : (number : ℕ) (xs : List ℕ)
    → map (top 15) (zip2 (λ (a b : ℕ). cond (below a b) 65535 0) xs (replicate 64 number))
    ≡ zip2 below xs (replicate 64 number)
compared number xs = tops_compared w16 below xs (replicate 64 number)

pub marked_long : (mark number : ℕ) (xs : List ℕ) → length xs ≡ 64
    → length (marked mark number xs) ≡ 64
marked_long mark number xs long =
    let many : length (zip2 below xs (replicate 64 number)) ≡ 64 =
    length-zip2 below xs (replicate 64 number) long ∙ long in
    rw (compared number xs) (length-sel_l (zip2 below xs (replicate 64 number))
    (replicate {A = ℕ} 64 mark) (replicate {A = ℕ} 64 0) many many ∙ many)

pub marked_lane : (mark number : ℕ) (xs : List ℕ) (k : ℕ) → length xs ≡ 64 → k < 64
    → get_or (marked mark number xs) k 0 ≡ cond {A = ℕ} (below (get_or xs k 0) number) mark 0
marked_lane mark number xs k long h =
    let many : length (zip2 below xs (replicate 64 number)) ≡ 64 =
    length-zip2 below xs (replicate 64 number) long ∙ long in
    rw (compared number xs) (get_or-sel_l (zip2 below xs (replicate 64 number))
    (replicate {A = ℕ} 64 mark) (replicate {A = ℕ} 64 0) k 0 (omega (arith, many, h)) h h
    ∙ rw (
      get_or-zip2 below xs (replicate 64 number) k 0 0 false (omega (arith, long, h)) h,
      get_or-replicate {A = ℕ} 64 k number 0 h,
      get_or-replicate {A = ℕ} 64 k mark 0 h,
      get_or-replicate {A = ℕ} 64 k 0 0 h,
    )
    refl)

-- the same where the number is below the lanes
abbrev pub marked_over : ℕ → ℕ → List ℕ → List ℕ
marked_over mark number xs =
    sel_l (map (top 15) (zip2 (λ (a b : ℕ). cond (below a b) 65535 0) (replicate 64 number) xs))
    (replicate 64 mark) (replicate 64 0)

over_is : (number : ℕ) (xs : List ℕ)
    → map (top 15) (zip2 (λ (a b : ℕ). cond (below a b) 65535 0) (replicate 64 number) xs)
    ≡ zip2 below (replicate 64 number) xs
over_is number xs = tops_compared w16 below (replicate 64 number) xs

pub marked_over_long : (mark number : ℕ) (xs : List ℕ) → length xs ≡ 64
    → length (marked_over mark number xs) ≡ 64
marked_over_long mark number xs long =
    let many : length (zip2 below (replicate 64 number) xs) ≡ 64 =
    length-zip2 below (replicate 64 number) xs (sym long) in
    rw (over_is number xs) (length-sel_l (zip2 below (replicate 64 number) xs)
    (replicate {A = ℕ} 64 mark) (replicate {A = ℕ} 64 0) many many ∙ many)

pub marked_over_lane : (mark number : ℕ) (xs : List ℕ) (k : ℕ) → length xs ≡ 64 → k < 64
    → get_or (marked_over mark number xs) k 0 ≡ cond {A = ℕ} (below number (get_or xs k 0)) mark 0
marked_over_lane mark number xs k long h =
    let many : length (zip2 below (replicate 64 number) xs) ≡ 64 =
    length-zip2 below (replicate 64 number) xs (sym long) in
    rw (over_is number xs) (get_or-sel_l (zip2 below (replicate 64 number) xs)
    (replicate {A = ℕ} 64 mark) (replicate {A = ℕ} 64 0) k 0 (omega (arith, many, h)) h h
    ∙ rw (
      get_or-zip2 below (replicate 64 number) xs k 0 0 false h (omega (arith, long, h)),
      get_or-replicate {A = ℕ} 64 k number 0 h,
      get_or-replicate {A = ℕ} 64 k mark 0 h,
      get_or-replicate {A = ℕ} 64 k 0 0 h,
    )
    refl)

-- ---- lower halves

less_signed : (a b : ℕ) → lt_z (signed_half a) (signed_half b) ≡ ltb a b
less_signed a b = elim (cases_lt a b) [
  | inl h ↦
      let is : lt_z (signed_half a) (signed_half b) ≡ true = grind (arith, ints) in
      is ∙ sym (lt-ltb a b h)
  | inr h ↦
      let not : lt_z (signed_half a) (signed_half b) ≡ false = grind (arith, ints) in
      not ∙ sym (le-ltb a b h)
]

pub half_fits : (half : ℕ) → half < 65536 → FitsSigned w16 (signed_half half)
half_fits half small = search rules

pub short_fits : (n : ℕ) → n < 32768 → FitsSigned w16 (pos n)
short_fits n small = search rules

less_lane : (a b : ℕ) → a < 65536 → b < 65536
    → below (of_z w16 (signed_half a)) (of_z w16 (signed_half b)) ≡ ltb a b
less_lane a b small less =
    rw (to_z-of_z w16 (signed_half a) (half_fits a small)) (rw (to_z-of_z w16 (signed_half b)
    (half_fits b less)) (less_signed a b))

-- numbers with signs that came by a call
back_again : (xs : List ℤ) (k : ℕ) (z : ℤ) → length xs ≡ 64 → k < 64 → get_or xs k (pos 0) ≡ z
    → FitsSigned w16 z → get_or (map (to_z w16) (map (of_z w16) xs)) k (pos 0) ≡ z
back_again xs k z long h is fits =
    get_or-map (to_z w16) (map (of_z w16) xs) k 0 (pos 0)
    (omega (arith, long, h, length-map xs (of_z w16)))
    ∙ rw (get_or-map (of_z w16) xs k (pos 0) 0 (omega (arith, long, h)), is)
    (to_z-of_z w16 z fits)

pub rooms_given : (room : ℕ → ℕ) (xs : List ℤ) → length xs ≡ 64 → AreRooms room xs
    → AreRooms room (map (to_z w16) (map (of_z w16) xs))
rooms_given room xs long are = record {
  below = are.below;
  lanes = λ k h. back_again xs k (signed_half (room k)) long h (are.lanes k h)
      (half_fits (room k) (are.below k h));
}

pub carried_long : (number : ℕ) (rooms : List ℤ) → length rooms ≡ 64
    → length (marked 1 number (map (of_z w16) rooms)) ≡ 64
carried_long number rooms long =
    marked_long 1 number (map (of_z w16) rooms) (length-map rooms (of_z w16) ∙ long)

pub carried_few : (number : ℕ) (rooms : List ℤ) (k : ℕ) → length rooms ≡ 64 → k < 64
    → get_or (marked 1 number (map (of_z w16) rooms)) k 0 ≤ 1
carried_few number rooms k long h =
    let many : length (map (of_z w16) rooms) ≡ 64 = length-map rooms (of_z w16) ∙ long in
    rw (marked_lane 1 number (map (of_z w16) rooms) k many h) (few (below
    (get_or (map (of_z w16) rooms) k 0) number))
  where
    few : (b : Bool) → cond {A = ℕ} b 1 0 ≤ 1
    few true = omega arith
    few false = omega arith

pub carried_lane : (low : ℕ) (z : ℤ) (rooms : List ℤ) (room : ℕ → ℕ) (k : ℕ)
    → z ≡ signed_half low → low < 65536 → length rooms ≡ 64 → AreRooms room rooms → k < 64
    → get_or (marked 1 (of_z w16 z) (map (of_z w16) rooms)) k 0 ≡ cond (ltb (room k) low) 1 0
carried_lane low z rooms room k is small long are h =
    let many : length (map (of_z w16) rooms) ≡ 64 = length-map rooms (of_z w16) ∙ long in
    marked_lane 1 (of_z w16 z) (map (of_z w16) rooms) k many h
    ∙ rw (
      get_or-map (of_z w16) rooms k (pos 0) 0 (omega (arith, long, h)),
      are.lanes k h,
      is,
      less_lane (room k) low (are.below k h) small,
    ) refl

-- ---- signed lanes in order

pub ordered_signed : (xs : List ℤ) (k : ℕ) (z : ℤ) → length xs ≡ 64 → k < 64
    → get_or xs (place k) (pos 0) ≡ z → FitsSigned w16 z
    → get_or (map (to_z w16) (ordered (map (of_z w16) xs))) k (pos 0) ≡ z
ordered_signed xs k z long h is fits =
    let many : length (map (of_z w16) xs) ≡ 64 = length-map xs (of_z w16) ∙ long in
    get_or-map (to_z w16) (ordered (map (of_z w16) xs)) k 0 (pos 0) (omega (arith, h))
    ∙ rw (
      ordered_lane (map (of_z w16) xs) k many h,
      get_or-map (of_z w16) xs (place k) (pos 0) 0 (omega (arith, long, place_below k h)),
      is,
    ) (to_z-of_z w16 z fits)

-- each lane of a choice between two splats
pub all_or_none : (P : ℕ → Type 0) (mark : ℕ) → P mark → P 0 → (ms : List Bool) (n : ℕ)
    → Each1 P (sel_l ms (replicate n mark) (replicate n 0))
all_or_none P mark a b [] n = tt
all_or_none P mark a b (m ∷ ms) zero = tt
all_or_none P mark a b (true ∷ ms) (suc n) = (a, all_or_none P mark a b ms n)
all_or_none P mark a b (false ∷ ms) (suc n) = (b, all_or_none P mark a b ms n)

pub carry_is : (room part : ℕ) → ((cond {A = ℕ} (ltb room part) 1 0 ≡ 1) × (room < part)) ⊎
    ((cond {A = ℕ} (ltb room part) 1 0 ≡ 0) × (part ≤ room))
carry_is room part = elim (leb_tells (suc room) part) [
  | inl y ↦ let e : leb (suc room) part ≡ true = y.0 in let more : suc room
      ≤ part = y.1 in inl (rw e refl, omega arith)
  | inr n ↦ let e : leb (suc room) part ≡ false = n.0 in let less : part < suc room = n.1 in inr
      (rw e refl, omega arith)
]
