-- Worked examples of which page a subframe has.
use Rattle.std.proofs.Common.{◌≡◌, ℕ, [], ◌∷◌, ◌++◌, refl}
use Rattle.std.specs.Prelude.{◌*◌, ◌^◌, map, replicate, Some, None}
use Rattle.definitions.specs.Frames.{Subframe}
use Rattle.definitions.specs.Pages.{kind_of, clock, eph2, eph3, almanac, utc, health, message}
use Rattle.definitions.specs.Fields.{Field}
use Rattle.std.specs.Prelude.{codes, false, length, option_map, slice_get, true}
use Rattle.definitions.specs.Pages.{fields_of, is_almanac_page, kind_of_page, sv_id}
use Rattle.std.specs.List.{range_with_len}
use Rattle.definitions.specs.Pages.{Kind}
use Rattle.std.specs.Prelude.{List}

-- a subframe of this ID whose page has this SV ID
abbrev page_of_id : ℕ → ℕ → Subframe
page_of_id id sv =
    record { words = map Some (0x8b0000 ∷ id * 4 ∷ sv * 2 ^ 16 ∷ replicate 7 0) }

kinds_of_first_subframes : map kind_of (page_of_id 1 0 ∷ page_of_id 2 0 ∷ page_of_id 3 0 ∷ [])
    ≡ Some clock ∷ Some eph2 ∷ Some eph3 ∷ []
kinds_of_first_subframes = refl

-- SV IDs 1 to 32 are almanacs, in either subframe (IS-GPS-200, table 20-V)
kinds_of_satellites : map kind_of (page_of_id 4 1 ∷ page_of_id 4 32 ∷ page_of_id 5 1
    ∷ page_of_id 5 32 ∷ page_of_id 5 0 ∷ page_of_id 5 33 ∷ [])
    ≡ replicate 4 (Some almanac) ++ None ∷ None ∷ []
kinds_of_satellites = refl

-- 55 and 56 are special messages and time in subframe 4 alone, and 51 is health in subframe 5 alone
kinds_of_pages : map kind_of (page_of_id 4 55 ∷ page_of_id 4 56 ∷ page_of_id 5 51 ∷ page_of_id 5 55
    ∷ page_of_id 5 56 ∷ page_of_id 4 51 ∷ [])
    ≡ Some message ∷ Some utc ∷ Some health ∷ None ∷ None ∷ None ∷ []
kinds_of_pages = refl

-- the IDs and SV IDs one by one
almanacs_by_id : map (λ id. is_almanac_page id 1) (range_with_len 0 8)
    ≡ false ∷ false ∷ false ∷ false ∷ true ∷ true ∷ false ∷ false ∷ []
almanacs_by_id = refl

almanacs_by_satellite : map (is_almanac_page 4) (0 ∷ 1 ∷ 32 ∷ 33 ∷ [])
    ≡ false ∷ true ∷ true ∷ false ∷ []
almanacs_by_satellite = refl

others_of_fourth : map (kind_of_page 4) (50 ∷ 51 ∷ 54 ∷ 55 ∷ 56 ∷ 57 ∷ [])
    ≡ None ∷ None ∷ None ∷ Some message ∷ Some utc ∷ None ∷ []
others_of_fourth = refl

others_of_fifth : map (kind_of_page 5) (50 ∷ 51 ∷ 52 ∷ 55 ∷ 56 ∷ [])
    ≡ None ∷ Some health ∷ None ∷ None ∷ None ∷ []
others_of_fifth = refl

others_of_neither : map (λ id. map (kind_of_page id) (51 ∷ 55 ∷ 56 ∷ [])) (3 ∷ 6 ∷ [])
    ≡ replicate 2 (replicate 3 None)
others_of_neither = refl

-- subframes of no known ID
kinds_of_no_id : map (λ id. kind_of (page_of_id id 0)) (0 ∷ 6 ∷ []) ≡ None ∷ None ∷ []
kinds_of_no_id = refl

-- the SV ID is 000101 between other ones
satellite_between_ones : sv_id (record {
  words = map Some (0xffffff ∷ 0xffffff ∷ 0xc5ffff ∷ replicate 7 0xffffff);
}) ≡ 5
satellite_between_ones = refl

-- each kind of page has its fields: the name of its first one, and how many there are
abbrev kinds : List Kind
kinds = clock ∷ eph2 ∷ eph3 ∷ almanac ∷ utc ∷ health ∷ message ∷ []

first_fields : map (λ kind. option_map (λ (f : Field). f.name) (slice_get (fields_of kind) 0)) kinds
    ≡ Some (codes "wn") ∷ Some (codes "iode") ∷ Some (codes "cic") ∷ Some (codes "data")
    ∷ Some (codes "data") ∷ Some (codes "data") ∷ Some [] ∷ []
first_fields = refl

numbers_of_fields : map (λ kind. length (fields_of kind)) kinds
    ≡ 11 ∷ 11 ∷ 9 ∷ 13 ∷ 18 ∷ 28 ∷ 22 ∷ []
numbers_of_fields = refl
