-- Windows of a table, side by side in the lanes of a word.
use Rattle.std.proofs.Common.{◌≡◌, ◌<◌, ◌++◌, ℕ, get_or, arith, List, map}
use Rattle.std.specs.List.{range_with_len}
use Rattle.std.proofs.lemmas.List.FromFn.{get_or-map-range_with_len}

-- lanes of two vectors, one after the other
pub side_by_side : (xs ys : List ℕ) (n i : ℕ) → i < n
    → get_or (map (λ (k : ℕ). get_or (xs ++ ys) k 0) (range_with_len 0 n)) i 0
    ≡ get_or (xs ++ ys) i 0
side_by_side xs ys n i h = get_or-map-range_with_len (λ (k : ℕ). get_or (xs ++ ys) k 0) 0 n i i 0 h
    (omega arith)
