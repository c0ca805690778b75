-- The order in which lanes of halves stand.
use Rattle.std.proofs.Common.{◌≡◌, ◌<◌, ℕ, List, ◌++◌, get_or, map, length, refl, sym, ap, ◌∙◌}
use Rattle.std.proofs.Common.{arith}
use Rattle.std.specs.List.{range_with_len}
use Rattle.std.specs.Prelude.{true, false, Bool, ltb}
use Rattle.std.proofs.lemmas.Bool.{ltb-true}
use Rattle.std.proofs.lemmas.List.{get_or-map, get_or_append_left, get_or-replicate}
use Rattle.std.proofs.Common.{replicate}
use Rattle.std.proofs.lemmas.List.FromFn.{get_or-map-range_with_len}
use Rattle.oscillators.specs.declared.carries.TheConstants.{ORDER}

abbrev pub place : ℕ → ℕ
place k = get_or ORDER k 0

-- each of 64 lanes has a place below 64
all_below : map (λ k. ltb (place k) 64) (range_with_len 0 64) ≡ replicate 64 true
all_below = refl

pub place_below : (k : ℕ) → k < 64 → place k < 64
place_below k h =
    let is : ltb (place k) 64 ≡ true =
    sym (get_or-map-range_with_len (λ j. ltb (place j) 64) 0 64 k k false h (omega arith))
    ∙ ap (λ (l : List Bool). get_or l k false) all_below ∙ get_or-replicate 64 k true false h in
    ltb-true (place k) 64 is

-- the place of its place is its own
all_back : map (λ k. place (place k)) (range_with_len 0 64) ≡ range_with_len 0 64
all_back = refl

pub place_back : (k : ℕ) → k < 64 → place (place k) ≡ k
place_back k h =
    sym (get_or-map-range_with_len (λ j. place (place j)) 0 64 k k 0 h (omega arith))
    ∙ ap (λ (l : List ℕ). get_or l k 0) all_back
    ∙ sym (ap (λ (l : List ℕ). get_or l k 0) all_same)
    ∙ get_or-map-range_with_len (λ j. j) 0 64 k k 0 h (omega arith)
  where
    all_same : map (λ (j : ℕ). j) (range_with_len 0 64) ≡ range_with_len 0 64
    all_same = refl

-- lanes in this order
abbrev pub ordered : List ℕ → List ℕ
ordered xs = map (λ p. get_or (xs ++ xs) p 0) ORDER

pub ordered_lane : (xs : List ℕ) (k : ℕ) → length xs ≡ 64 → k < 64
    → get_or (ordered xs) k 0 ≡ get_or xs (place k) 0
ordered_lane xs k long h =
    let many : length ORDER ≡ 64 = refl in
    get_or-map (λ p. get_or (xs ++ xs) p 0) ORDER k 0 0 (omega (arith, many, h))
    ∙ get_or_append_left xs xs 0 (place k) (omega (arith, long, place_below k h))
