-- Worked examples of fields in two's complement and in two parts.
use Rattle.std.proofs.Common.{◌≡◌, ℕ, List, [], ◌∷◌, refl}
use Rattle.std.specs.Prelude.{ℤ, pos, neg_ℤ, map, Option, Some, find, codes, bytes_eq, replicate}
use Rattle.std.specs.Prelude.{option_and_then, option_map}
use Rattle.definitions.specs.Frames.{Subframe}
use Rattle.std.specs.Prelude.{slice_get}
use Rattle.definitions.specs.Fields.{Field, clock_fields, eph2_fields, eph3_fields, almanac_fields}
use Rattle.definitions.specs.Fields.{field_of}
use Rattle.definitions.specs.Pages.{Page, page_of}
use Rattle.std.specs.Prelude.{None, false, true, ◌++◌}
use Rattle.definitions.specs.Fields.{all_places, bit_at_place, bits, number_of, place_of, signed}
use Rattle.definitions.specs.Fields.{unsigned, word_at_place}
use Rattle.std.specs.List.{range_with_len}

-- the field of a table by its name
abbrev value_in : List Field → List ℕ → Subframe → Option ℤ
value_in fields name s =
    option_and_then (field_of s) (find (λ (f : Field). bytes_eq f.name name) fields)

abbrev words : List ℕ → Subframe
words data_words = record { words = map (λ w. Some w) data_words }

tgd_of_clock : value_in clock_fields (codes "tgd")
    (words (0x8b0000 ∷ 0x84 ∷ 0 ∷ 0 ∷ 0 ∷ 0 ∷ 0x80 ∷ 0 ∷ 0 ∷ 0 ∷ [])) ≡ Some (neg_ℤ (pos 128))
unfolding field_of
tgd_of_clock = refl

abbrev second_subframe : Subframe
second_subframe = words (0x8b0000 ∷ 0x88 ∷ 0 ∷ 0x80 ∷ 0 ∷ 0xff ∷ 0xffffff ∷ 0 ∷ 0 ∷ 0 ∷ [])

mean_anomaly : value_in eph2_fields (codes "m0") second_subframe ≡ Some (neg_ℤ (pos 2147483648))
unfolding field_of
mean_anomaly = refl

eccentricity : value_in eph2_fields (codes "e") second_subframe ≡ Some (pos 4294967295)
unfolding field_of
eccentricity = refl

abbrev almanac_subframe : Subframe
almanac_subframe = words (0x8b0000 ∷ 0x94 ∷ 0 ∷ 0 ∷ 0 ∷ 0 ∷ 0 ∷ 0 ∷ 0 ∷ 0x800004 ∷ [])

almanac_clock_offset : value_in almanac_fields (codes "af0") almanac_subframe
    ≡ Some (neg_ℤ (pos 1023))
unfolding field_of
almanac_clock_offset = refl

almanac_clock_drift : value_in almanac_fields (codes "af1") almanac_subframe ≡ Some (pos 0)
unfolding field_of
almanac_clock_drift = refl

-- an almanac page of satellite 5 with time of applicability 7
almanac_page : option_map (λ (p : Page). p.values)
    (page_of (words (0x8b0000 ∷ 0x94 ∷ 0x450000 ∷ 0x070000 ∷ 0 ∷ 0 ∷ 0 ∷ 0 ∷ 0 ∷ 0 ∷ [])))
    ≡ Some (pos 1 ∷ pos 5 ∷ pos 0 ∷ pos 7 ∷ replicate 9 (pos 0))
unfolding page_of
almanac_page = refl

-- the values that sets go by are those of these names
abbrev name_at : List Field → ℕ → Option (List ℕ)
name_at fields k = option_map (λ (f : Field). f.name) (slice_get fields k)

issue_names : name_at clock_fields 4 ∷ name_at eph2_fields 0 ∷ name_at eph3_fields 7 ∷ []
    ≡ Some (codes "iodc") ∷ Some (codes "iode") ∷ Some (codes "iode3") ∷ []
issue_names = refl

almanac_names : map (name_at almanac_fields) (1 ∷ 3 ∷ 6 ∷ [])
    ≡ Some (codes "sv") ∷ Some (codes "toa") ∷ Some (codes "health") ∷ []
almanac_names = refl

-- the almanac's parameters in the order of figure 20-1, sheet 4 of IS-GPS-200
names_of_almanac : map (λ (f : Field). f.name) almanac_fields ≡ codes "data" ∷ codes "sv"
    ∷ codes "e" ∷ codes "toa" ∷ codes "di" ∷ codes "omdot" ∷ codes "health" ∷ codes "sqrta"
    ∷ codes "om0" ∷ codes "w" ∷ codes "m0" ∷ codes "af0" ∷ codes "af1" ∷ []
names_of_almanac = refl

-- 101 and 011, unsigned and in two's complement
numbers_of_digits : map (number_of false) ((1 ∷ 0 ∷ 1 ∷ []) ∷ (0 ∷ 1 ∷ 1 ∷ []) ∷ [])
    ++ map (number_of true)
    ((1 ∷ 0 ∷ 1 ∷ []) ∷ (0 ∷ 1 ∷ 1 ∷ []) ∷ []) ≡ pos 5 ∷ pos 3 ∷ neg_ℤ (pos 3) ∷ pos 3 ∷ []
numbers_of_digits = refl

-- word 2 begins with place 31, its last data bit has place 54
words_at_places : map (word_at_place (record { words = map Some (range_with_len 1 10) }))
    (1 ∷ 30 ∷ 31 ∷ 60 ∷ 61 ∷ 300 ∷ []) ≡ map Some (1 ∷ 1 ∷ 2 ∷ 2 ∷ 3 ∷ 10 ∷ [])
words_at_places = refl

bits_at_places : map (bit_at_place (record {
  words = Some 0x400000 ∷ Some 0x800001 ∷ None ∷ [];
})) (1 ∷ 2 ∷ 24 ∷ 31 ∷ 32 ∷ 53 ∷ 54 ∷ 84 ∷ []) ≡ 0 ∷ 1 ∷ 0 ∷ 1 ∷ 0 ∷ 0 ∷ 1 ∷ 0 ∷ []
bits_at_places = refl

-- both parts in their order, each to its last place
places_of_parts : all_places (signed [] (bits 7 9 ∷ bits 2 2 ∷ []) (pos 0)) ≡ 7 ∷ 8 ∷ 9 ∷ 2 ∷ []
places_of_parts = refl

-- a field of two words is there where both are
field_of_two_words : map (λ w. field_of (record { words = Some 0 ∷ Some 1 ∷ w ∷ [] })
    (unsigned [] (bits 54 54 ∷ bits 61 62 ∷ []) (pos 0))) (Some 0xbfffff ∷ None ∷ [])
    ≡ Some (pos 6) ∷ None ∷ []
unfolding field_of
field_of_two_words = refl

-- places are counted from 0, and a name that isn't there has the place after the last
places_by_name : map (λ name. place_of name almanac_fields) (codes "data" ∷ codes "toa"
    ∷ codes "af1"
    ∷ codes "none" ∷ []) ≡ 0 ∷ 3 ∷ 12 ∷ 13 ∷ []
places_by_name = refl
