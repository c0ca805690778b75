-- Worked examples of false headers, and of the order of what a bit reports.
use Rattle.std.proofs.Common.{◌≡◌, ℕ, List, [], ◌∷◌, ◌++◌, refl}
use Rattle.std.specs.Prelude.{◌-◌, ◌==◌, option_and_then, map, Bool, false, Some, replicate}
use Rattle.std.specs.List.{range_with_len}
use Rattle.definitions.specs.Sums.{least_below}
use Rattle.definitions.specs.Parity.{checked_data, passes, holds, data_of}
use Rattle.std.specs.Int.{bit_at}
use Rattle.std.specs.Option.{is_some}
use Rattle.definitions.specs.Frames.{Subframe, Found, found_by, starts_of, starts_from}
use Rattle.definitions.specs.Frames.{is_candidate, checked_at, subframe_at}
use Rattle.definitions.specs.DataSets.{reports_of, new_set, last_reported}
use Rattle.definitions.specs.Events.{subframe, gap, bit_events, pages_among}
use Rattle.definitions.specs.Pages.{page_of}
use Rattle.std.specs.Prelude.{true}
use Rattle.definitions.specs.Frames.{is_header}
use Rattle.std.specs.Prelude.{length, pos, take}
use Rattle.definitions.specs.Events.{reported}
use Rattle.definitions.specs.DataSets.{single}
use Rattle.definitions.specs.Pages.{utc}

abbrev bits_of_word : ℕ → List Bool
bits_of_word word = map (λ i. bit_at word (29 - i) == 1) (range_with_len 0 30)

abbrev header : List Bool
header = bits_of_word 0x22C00012 ++ bits_of_word 0x00002104

abbrev whole : List Bool
whole = header ++ replicate 240 false

-- a false header is taken as a start, and the true one inside its 300 bits is not; the subframe
-- after it has a gap
behind_false_header : option_and_then (λ (f : Found). f.gap)
    (found_by (false ∷ false ∷ header ++ replicate 90 false ++ whole ++ whole)) ≡ Some 150
unfolding found_by starts_of starts_from is_candidate checked_at checked_data passes holds data_of
    least_below subframe_at
behind_false_header = refl

-- nothing is found with the last bit of the true one
not_inside : is_some (found_by (false ∷ false ∷ header ++ replicate 90 false ++ header
    ++ replicate 240 false)) ≡ false
unfolding found_by starts_of starts_from is_candidate checked_at checked_data passes holds data_of
    least_below subframe_at
not_inside = refl

abbrev words : List ℕ → Subframe
words data_words = record { words = map (λ w. Some w) data_words }

abbrev with_five_between : List Bool
with_five_between = false ∷ false ∷ whole ++ replicate 5 false ++ whole

-- the gap stands before its subframe
gap_comes_first : bit_events with_five_between (found_by with_five_between)
    ≡ gap 5 ∷ subframe (words (0x8b0000 ∷ 0x84 ∷ replicate 8 0)) ∷ []
unfolding found_by starts_of starts_from is_candidate checked_at checked_data passes holds data_of
    least_below subframe_at page_of pages_among reports_of new_set last_reported
gap_comes_first = refl

-- a header needs an ID of 1 to 5, equal bits before it, and the same two at its end
headers : map (λ second. is_header 0 (Some 0x8b0000) (Some second) 0)
    (0x80 ∷ 0x84 ∷ 0x94 ∷ 0x98 ∷ 0x9c ∷ []) ≡ false ∷ true ∷ true ∷ false ∷ false ∷ []
headers = refl

priors : map (λ prior. is_header prior (Some 0x8b0000) (Some 0x84) prior) (0 ∷ 1 ∷ 2 ∷ 3 ∷ [])
    ≡ true ∷ false ∷ false ∷ true ∷ []
priors = refl

-- a page's report comes after its subframe: subframe 4 with SV ID 56, each word with the parity
-- that a program apart has worked out
abbrev page_bits : List Bool
page_bits = false ∷ false ∷ bits_of_word 0x22c00012 ++ bits_of_word 0x00002470
    ++ bits_of_word 0x1e00003c ++ replicate 210 false

page_comes_last : bit_events page_bits (found_by page_bits)
    ≡ subframe (words (0x8b0000 ∷ 0x91 ∷ 0x780000 ∷ replicate 7 0))
    ∷ reported (single (record { kind = utc; values = pos 1 ∷ pos 56 ∷ replicate 16 (pos 0) })) ∷ []
unfolding found_by starts_of starts_from is_candidate checked_at checked_data passes holds data_of
    least_below subframe_at page_of pages_among reports_of new_set last_reported
page_comes_last = refl

-- its page is among the pages once its last bit is there
pages_by_bits : map (λ bits. length (pages_among bits)) (take 301 page_bits ∷ page_bits
    ∷ (page_bits ++ false ∷ []) ∷ []) ≡ 0 ∷ 1 ∷ 1 ∷ []
unfolding starts_of starts_from is_candidate checked_at checked_data passes holds data_of
    least_below
    subframe_at page_of pages_among
pages_by_bits = refl
