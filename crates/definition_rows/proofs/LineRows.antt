-- Worked examples of sums over ranges, of least numbers, of division that rounds toward minus
-- infinity, and of lines and words.
use Rattle.std.proofs.Common.{◌≡◌, refl}
use Rattle.std.specs.Prelude.{None, Some, codes, map, nat_le, neg_ℤ, negsuc, pos, ◌++◌, ◌∷◌}
use Rattle.definitions.specs.Lines.{as_bytes, lines_of, pieces_ended_by, words_of}
use Rattle.definitions.specs.Sums.{between, floor_div, floor_mod, least_below, natural, or_else}
use Rattle.definitions.specs.Sums.{sum_between, total}
use Rattle.std.proofs.Common.{[]}

-- 0 + 1 + 2 + 3, and 2 + 3 + 4
sums_of_ranges : total pos 4 ∷ sum_between pos 2 5 ∷ [] ≡ pos 6 ∷ pos 9 ∷ []
unfolding total
sums_of_ranges = refl

numbers_between : between 2 5 ≡ 2 ∷ 3 ∷ 4 ∷ []
numbers_between = refl

first_answer : or_else (Some 1) (Some 2) ∷ or_else None (Some 2) ∷ or_else None None ∷ []
    ≡ Some 1 ∷ Some 2 ∷ None ∷ []
first_answer = refl

-- the least number that is 2 or more, below 2 and below 5
least_of_some : map (least_below (nat_le 2)) (0 ∷ 2 ∷ 5 ∷ []) ≡ None ∷ None ∷ Some 2 ∷ []
unfolding least_below
least_of_some = refl

-- -7 is -4 * 2 + 1, and 7 is 3 * 2 + 1
floors : floor_div (negsuc 6) 2 ∷ floor_div (pos 7) 2 ∷ [] ≡ neg_ℤ (pos 4) ∷ pos 3 ∷ []
floors = refl

remainders : floor_mod (negsuc 6) 2 ∷ floor_mod (pos 7) 2 ∷ floor_mod (negsuc 7) 2 ∷ []
    ≡ 1 ∷ 1 ∷ 0 ∷ []
remainders = refl

naturals : map natural (pos 7 ∷ negsuc 6 ∷ []) ≡ 7 ∷ 0 ∷ []
naturals = refl

-- an empty line is a line, and the last one needn't be ended
lines_of_text : lines_of (codes "ab" ++ 10 ∷ 10 ∷ 9 ∷ codes "c" ++ 11 ∷ []) ≡ codes "ab" ∷ []
    ∷ (9 ∷ codes "c" ++ 11 ∷ []) ∷ []
unfolding pieces_ended_by
lines_of_text = refl

lines_all_ended : lines_of (codes "ab" ++ 10 ∷ []) ≡ codes "ab" ∷ []
unfolding pieces_ended_by
lines_all_ended = refl

-- words have spaces alone between them and at the ends
words_of_line : words_of (codes "  ab c" ++ 9 ∷ codes "d! ")
    ≡ codes "ab" ∷ (codes "c" ++ 9 ∷ codes "d!") ∷ []
unfolding pieces_ended_by
words_of_line = refl

bytes_of_lines : as_bytes (codes "ab" ∷ [] ∷ codes "c" ∷ []) ≡ codes "ab" ++ 10 ∷ 10 ∷ codes "c"
    ++ 10 ∷ []
unfolding as_bytes
bytes_of_lines = refl
