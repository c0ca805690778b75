-- Worked examples of the search for subframes. A subframe of a telemetry word, a handover word and
-- eight words of zeros.
use Rattle.std.proofs.Common.{◌≡◌, ℕ, ◌-◌, List, [], ◌∷◌, ◌++◌, refl}
use Rattle.std.specs.Prelude.{◌==◌, map, Bool, true, false, Option, Some, None, replicate}
use Rattle.std.specs.Prelude.{option_map, option_and_then, not}
use Rattle.std.specs.List.{range_with_len}
use Rattle.std.specs.Int.{bit_at}
use Rattle.definitions.specs.Sums.{least_below}
use Rattle.definitions.specs.Parity.{checked_data, passes, holds, data_of}
use Rattle.definitions.specs.Frames.{found_by, Found, starts_of, starts_from, is_candidate}
use Rattle.definitions.specs.Frames.{candidate_from, checked_at, subframe_at, id_of, tow_of}
use Rattle.definitions.specs.Pages.{page_of}
use Rattle.definitions.specs.Frames.{tow_in, id_in, has_preamble, found_among}
use Rattle.std.specs.Option.{is_some}

abbrev bits_of_word : ℕ → List Bool
bits_of_word word = map (λ i. bit_at word (29 - i) == 1) (range_with_len 0 30)

abbrev header : List Bool
header = bits_of_word 0x22C00012 ++ bits_of_word 0x00002104

abbrev subframe_bits : List Bool
subframe_bits = header ++ replicate 240 false

abbrev example : List Bool
example = false ∷ false ∷ subframe_bits

-- the words of a subframe that is found, and its gap
abbrev words_found : List Bool → Option (List (Option ℕ))
words_found bits = option_map (λ (f : Found). f.subframe.words) (found_by bits)

abbrev gap_found : List Bool → Option ℕ
gap_found bits = option_and_then (λ (f : Found). f.gap) (found_by bits)

found : words_found example ≡ Some (Some 0x8b0000 ∷ Some 0x84 ∷ replicate 8 (Some 0))
unfolding found_by starts_of starts_from is_candidate checked_at checked_data passes holds data_of
    least_below subframe_at
found = refl

found_without_gap : gap_found example ≡ None
unfolding found_by starts_of starts_from is_candidate checked_at checked_data passes holds data_of
    least_below subframe_at
found_without_gap = refl

found_id_and_count : option_map (λ (f : Found). id_of f.subframe ∷ tow_of f.subframe
    ∷ []) (found_by example) ≡ Some (1 ∷ 1 ∷ [])
unfolding found_by starts_of starts_from is_candidate checked_at checked_data passes holds data_of
    least_below subframe_at
found_id_and_count = refl

-- all bits inverted
found_inverted : words_found (map not example)
    ≡ Some (Some 0x8b0000 ∷ Some 0x84 ∷ replicate 8 (Some 0))
unfolding found_by starts_of starts_from is_candidate checked_at checked_data passes holds data_of
    least_below subframe_at
found_inverted = refl

-- the first bit of word 5 changed
abbrev damaged : List Bool
damaged = false ∷ false ∷ header ++ replicate 60 false ++ true ∷ replicate 179 false

found_damaged : words_found damaged
    ≡ Some (Some 0x8b0000 ∷ Some 0x84 ∷ Some 0 ∷ Some 0 ∷ None ∷ replicate 5 (Some 0))
unfolding found_by starts_of starts_from is_candidate checked_at checked_data passes holds data_of
    least_below subframe_at
found_damaged = refl

damaged_has_no_page : option_and_then (λ (f : Found). page_of f.subframe) (found_by damaged) ≡ None
unfolding found_by starts_of starts_from is_candidate checked_at checked_data passes holds data_of
    least_below subframe_at page_of
damaged_has_no_page = refl

-- a bare preamble isn't taken: the start is after it
abbrev false_preamble : List Bool
false_preamble = false ∷ false ∷ map (λ i. bit_at 0x8b (7 - i) == 1) (range_with_len 0 8)
    ++ replicate 52 false ++ subframe_bits

start_behind_preamble : candidate_from false_preamble 0 ≡ Some 62
unfolding is_candidate checked_at checked_data passes holds data_of least_below
start_behind_preamble = refl

-- a header inside a subframe, as words 6 and 7, is no start
abbrev header_inside : List Bool
header_inside = false ∷ false ∷ header ++ replicate 90 false ++ header ++ replicate 90 false

one_start : starts_of header_inside ≡ 2 ∷ []
unfolding starts_of starts_from is_candidate checked_at checked_data passes holds data_of
    least_below
one_start = refl

-- five bits after a subframe, and another one: the gap is five
found_with_gap : gap_found (example ++ replicate 5 false ++ subframe_bits) ≡ Some 5
unfolding found_by starts_of starts_from is_candidate checked_at checked_data passes holds data_of
    least_below subframe_at
found_with_gap = refl

-- all bits from word 6 on inverted: its parity is that of other last bits, so it is missing, and
-- the words after it pass
found_inverted_tail : words_found (false ∷ false ∷ header ++ replicate 90 false
    ++ replicate 150 true)
    ≡ Some (Some 0x8b0000 ∷ Some 0x84 ∷ Some 0 ∷ Some 0 ∷ Some 0 ∷ None ∷ replicate 4 (Some 0))
unfolding found_by starts_of starts_from is_candidate checked_at checked_data passes holds data_of
    least_below subframe_at
found_inverted_tail = refl

-- the last bit of word 5 changed: words 5 and 6 are missing
found_changed_last_bit : words_found (false ∷ false ∷ header ++ replicate 89 false
    ++ true ∷ replicate 150 false)
    ≡ Some (Some 0x8b0000 ∷ Some 0x84 ∷ Some 0 ∷ Some 0 ∷ None ∷ None ∷ replicate 4 (Some 0))
unfolding found_by starts_of starts_from is_candidate checked_at checked_data passes holds data_of
    least_below subframe_at
found_changed_last_bit = refl

-- a whole false header is taken as a start, and the true one inside its 300 bits is not
found_false_header : words_found (false ∷ false ∷ header ++ replicate 90 false ++ header
    ++ replicate 90 false)
    ≡ Some (Some 0x8b0000 ∷ Some 0x84 ∷ Some 0 ∷ Some 0 ∷ Some 0 ∷ Some 0x8b0000 ∷ Some 0x84
    ∷ Some 0 ∷ Some 0 ∷ Some 0 ∷ [])
unfolding found_by starts_of starts_from is_candidate checked_at checked_data passes holds data_of
    least_below subframe_at
found_false_header = refl

-- all 17 bits of the time of week are ones, and then subframe 1 (IS-GPS-200, 20.3.3.2)
greatest_time_of_week : tow_in 0xffff84 ∷ id_in 0xffff84 ∷ [] ≡ 131071 ∷ 1 ∷ []
greatest_time_of_week = refl

-- data have the preamble 10001011 as it is, since the inversion of a word is taken off before; the
-- other sixteen bits are free (20.3.3.1)
preambles : map has_preamble (0x8b0000 ∷ 0x740000 ∷ 0x8a0000 ∷ 0x8bffff ∷ 0x8c0000 ∷ [])
    ≡ true ∷ false ∷ false ∷ true ∷ false ∷ []
preambles = refl

-- a subframe of 300 bits from place 2 on is found with the last of them, and with no bit before or
-- after it
found_with_last_bit : map (λ n. is_some (found_among (replicate n false) None (2 ∷ [])))
    (301 ∷ 302 ∷ 303 ∷ []) ≡ false ∷ true ∷ false ∷ []
unfolding subframe_at checked_at
found_with_last_bit = refl

-- the next start is 300 bits after a start, and none is 299 bits after it
next_start : starts_of (false ∷ false ∷ header ++ replicate 240 false ++ header) ≡ 2 ∷ 302 ∷ []
unfolding starts_of starts_from is_candidate checked_at checked_data passes holds data_of
    least_below
next_start = refl

no_start_before : starts_of (false ∷ false ∷ header ++ replicate 239 false ++ header) ≡ 2 ∷ []
unfolding starts_of starts_from is_candidate checked_at checked_data passes holds data_of
    least_below
no_start_before = refl
