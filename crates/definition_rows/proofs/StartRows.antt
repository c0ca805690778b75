-- Worked examples of the numbers that bits write, of headers at the end of a list of bits, and of
-- gaps.
use Rattle.std.proofs.Common.{◌≡◌, refl}
use Rattle.std.specs.Prelude.{Bool, List, None, Some, drop, false, map, not, replicate, true, ◌-◌}
use Rattle.std.specs.Prelude.{◌++◌, ◌∷◌, ◌==◌}
use Rattle.std.specs.Int.{bit_at}
use Rattle.definitions.specs.Frames.{candidate_from, checked_at, gap_from, is_candidate, is_header}
use Rattle.definitions.specs.Frames.{number_at, prior_at, word_at, word_of}
use Rattle.definitions.specs.Parity.{checked_data, data_of, holds, passes}
use Rattle.definitions.specs.Sums.{least_below}
use Rattle.std.specs.List.{range_with_len}
use Rattle.std.proofs.Common.{[], ℕ}

abbrev bits_of_word : ℕ → List Bool
bits_of_word word = map (λ i. bit_at word (29 - i) == 1) (range_with_len 0 30)

abbrev header : List Bool
header = bits_of_word 0x22C00012 ++ bits_of_word 0x00002104

-- places 1 to 4 of 101101 hold 0110
number_of_bits : number_at (true ∷ false ∷ true ∷ true ∷ false ∷ true ∷ []) 1 4 ≡ 6
number_of_bits = refl

word_between : word_at (true ∷ bits_of_word 0x22C00012 ++ true ∷ []) 1 ≡ 0x22C00012
word_between = refl

-- of 1011 the two bits before place 3 are 01, before place 2 they are 10
bits_before : map (prior_at (true ∷ false ∷ true ∷ true ∷ [])) (3 ∷ 2 ∷ []) ≡ 1 ∷ 2 ∷ []
bits_before = refl

-- the last two bits of a header are those before it, the preamble is there, and both words pass
wrong_headers : is_header 0 (Some 0x8b0000) (Some 0x84) 3
    ∷ is_header 3 (Some 0x8b0000) (Some 0x84) 0
    ∷ is_header 3 (Some 0x8b0000) (Some 0x84) 2 ∷ is_header 0 (Some 0x740000) (Some 0x84) 0
    ∷ is_header 0 None (Some 0x84) 0 ∷ is_header 0 (Some 0x8b0000) None 0 ∷ []
    ≡ replicate 6 false
wrong_headers = refl

-- all 60 bits of a header are there. Less its first bit the second word would be the same number
header_at_end : map (λ bits. is_candidate (false ∷ false ∷ bits) 2)
    (header ∷ (bits_of_word 0x22C00012 ++ drop 1 (bits_of_word 0x00002104)) ∷ [])
    ≡ true ∷ false ∷ []
unfolding is_candidate checked_at checked_data passes holds data_of
header_at_end = refl

-- what comes after an inverted header is no part of it
inverted_header : is_candidate (true ∷ true ∷ map not header ++ false ∷ []) 2 ≡ true
unfolding is_candidate checked_at checked_data passes holds data_of
inverted_header = refl

-- the least start at or after a place
start_from_place : map (candidate_from (false ∷ false ∷ header)) (2 ∷ 3 ∷ []) ≡ Some 2 ∷ None ∷ []
unfolding is_candidate checked_at checked_data passes holds data_of least_below
start_from_place = refl

-- words are numbered from 1
words_of_subframe : map (word_of (record { words = map Some (range_with_len 11 10) }))
    (1 ∷ 2 ∷ 10 ∷ 11 ∷ []) ≡ Some 11 ∷ Some 12 ∷ Some 20 ∷ None ∷ []
words_of_subframe = refl

-- a gap is counted from 300 bits after a start, and the first start has none
gaps : gap_from None 7 ∷ gap_from (Some 302) 302 ∷ gap_from (Some 302) 307 ∷ []
    ≡ None ∷ None ∷ Some 5 ∷ []
gaps = refl

-- a second word that passes, of subframe 1 too, but doesn't end in the two bits before the first,
-- 00. A program apart has worked out its parity
other_last_bits :
    is_candidate (false ∷ false ∷ bits_of_word 0x22C00012 ++ bits_of_word 0x00002157) 2 ≡ false
unfolding is_candidate checked_at checked_data passes holds data_of
other_last_bits = refl
