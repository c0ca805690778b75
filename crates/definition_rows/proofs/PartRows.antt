-- Worked examples of the parts of sets: kinds of pages, the last page of a kind, values by name,
-- and when a set differs from the one before it.
use Rattle.std.proofs.Common.{◌≡◌, refl}
use Rattle.definitions.specs.Pages.{Kind, Page, almanac, clock, eph2, eph3, health, message, utc}
use Rattle.std.specs.Prelude.{List, None, Some, codes, false, flat_map, map, pos, replicate, take}
use Rattle.std.specs.Prelude.{true, ◌+◌, ◌*◌, ◌∷◌}
use Rattle.definitions.specs.DataSets.{SetKind, all_there, almanac_set, almanac_sv, differing}
use Rattle.definitions.specs.DataSets.{ephemeris_of, have_one_toa, health_of, iodc, is_ephemeris}
use Rattle.definitions.specs.DataSets.{is_of, joined_values, kind_number, last_almanac, last_page}
use Rattle.definitions.specs.DataSets.{last_reported, later, new_set, reported_with, reports_of}
use Rattle.definitions.specs.DataSets.{single, toa_of, value_of_almanac, values_for_one_toa}
use Rattle.std.specs.List.{range_with_len}
use Rattle.std.proofs.Common.{[], ℕ}
use Rattle.std.specs.Prelude.{ℤ}

abbrev kinds : List Kind
kinds = clock ∷ eph2 ∷ eph3 ∷ almanac ∷ utc ∷ health ∷ message ∷ []

abbrev page_with : Kind → List ℤ → Page
page_with kind values = record { kind = kind; values = values }

numbers_of_kinds : map kind_number kinds ≡ range_with_len 0 7
numbers_of_kinds = refl

kinds_of_ephemeris : map (λ kind. is_ephemeris (page_with kind [])) kinds
    ≡ true ∷ true ∷ true ∷ replicate 4 false
kinds_of_ephemeris = refl

abbrev three_pages : List Page
three_pages = page_with clock (pos 1 ∷ []) ∷ page_with clock (pos 2 ∷ []) ∷ page_with utc [] ∷ []

last_of_kind : map (λ kind. last_page (is_of kind) three_pages) (clock ∷ eph2 ∷ [])
    ≡ Some (page_with clock (pos 2 ∷ [])) ∷ None ∷ []
last_of_kind = refl

-- the fifth value of a clock page is its issue of data; a page without values has 0
named_value : map (λ values. iodc (page_with clock values)) (map pos (range_with_len 1 11) ∷ []
    ∷ [])
    ≡ pos 5 ∷ pos 0 ∷ []
named_value = refl

-- the values of the three pages in their order: the fifth of the first, the first of the second and
-- the eighth of the third are their issues
abbrev clock_page : Page
clock_page = page_with clock (map pos (1 ∷ 2 ∷ 3 ∷ 4 ∷ 0x109 ∷ 5 ∷ []))

abbrev second_page : ℕ → Page
second_page issue = page_with eph2 (map pos (issue ∷ 6 ∷ []))

abbrev third_page : ℕ → Page
third_page issue = page_with eph3 (map pos (10 ∷ 11 ∷ 12 ∷ 13 ∷ 14 ∷ 15 ∷ 16 ∷ issue ∷ 17 ∷ []))

values_joined : map (λ (second, third). joined_values (Some clock_page) (Some (second_page second))
    (Some (third_page third))) ((9, 9) ∷ (9, 8) ∷ (8, 8) ∷ (8, 9) ∷ [])
    ≡ Some (map pos (1 ∷ 2 ∷ 3 ∷ 4 ∷ 0x109 ∷ 5 ∷ 9 ∷ 6 ∷ 10 ∷ 11 ∷ 12 ∷ 13 ∷ 14 ∷ 15 ∷ 16 ∷ 9 ∷ 17
    ∷ [])) ∷ None ∷ None ∷ None ∷ []
values_joined = refl

last_of_each : ephemeris_of (second_page 9 ∷ third_page 9 ∷ clock_page ∷ []) ≡ joined_values
    (Some clock_page) (Some (second_page 9)) (Some (third_page 9))
last_of_each = refl

-- an almanac's second value is its satellite, the fourth its time, the seventh its health
abbrev almanac_of : ℕ → ℕ → ℕ → Page
almanac_of sv toa code =
    page_with almanac (map pos (90 ∷ sv ∷ 91 ∷ toa ∷ 92 ∷ 93 ∷ code ∷ []))

parts_of_almanac : almanac_sv (almanac_of 4 5 6) ∷ toa_of (almanac_of 4 5 6)
    ∷ health_of (almanac_of 4 5 6) ∷ [] ≡ pos 4 ∷ pos 5 ∷ pos 6 ∷ []
parts_of_almanac = refl

last_of_satellite : last_almanac (almanac_of 4 5 6 ∷ almanac_of 4 7 8 ∷ almanac_of 3 5 6
    ∷ page_with utc (map pos (0 ∷ 4 ∷ [])) ∷ []) 4 ≡ Some (almanac_of 4 7 8)
last_of_satellite = refl

all_or_none : all_there (Some (pos 1) ∷ Some (pos 2) ∷ []) ∷ all_there (Some (pos 1) ∷ None ∷ [])
    ∷ all_there (None ∷ Some (pos 2) ∷ []) ∷ [] ≡ Some (pos 1 ∷ pos 2 ∷ []) ∷ None ∷ None ∷ []
all_or_none = refl

one_time : have_one_toa (almanac_of 1 5 0 ∷ almanac_of 2 5 0 ∷ almanac_of 3 5 1 ∷ [])
    ∷ have_one_toa (almanac_of 1 5 0 ∷ almanac_of 2 5 0 ∷ almanac_of 3 6 0 ∷ [])
    ∷ have_one_toa [] ∷ [] ≡ true ∷ false ∷ false ∷ []
one_time = refl

values_for_one_time : values_for_one_toa (page_with almanac (pos 1 ∷ pos 2 ∷ [])
    ∷ page_with almanac (pos 3 ∷ []) ∷ []) ∷ values_for_one_toa (almanac_of 1 5 0 ∷ almanac_of 2 6 0
    ∷ []) ∷ [] ≡ Some (pos 1 ∷ pos 2 ∷ pos 3 ∷ []) ∷ None ∷ []
values_for_one_time = refl

-- a set differs from the one before it, or is the first
differences : differing None (Some (pos 1 ∷ [])) ∷ differing (Some (pos 1 ∷ [])) (Some (pos 1 ∷ []))
    ∷ differing (Some (pos 1 ∷ [])) (Some (pos 2 ∷ [])) ∷ differing (Some (pos 1 ∷ [])) None ∷ []
    ≡ Some (pos 1 ∷ []) ∷ None ∷ Some (pos 2 ∷ []) ∷ None ∷ []
differences = refl

later_of_two : later (Some (pos 1 ∷ [])) None ∷ later (Some (pos 1 ∷ [])) (Some (pos 2 ∷ []))
    ∷ later None (Some (pos 2 ∷ [])) ∷ []
    ≡ Some (pos 1 ∷ []) ∷ Some (pos 2 ∷ []) ∷ Some (pos 2 ∷ []) ∷ []
later_of_two = refl

-- a kind of set that is looked for with pages of time alone, whose values are those of all pages
abbrev all_values : SetKind
all_values = record {
  is_looked_for = is_of utc;
  values_of = λ pages. Some (flat_map (λ (page : Page). page.values) pages);
}

abbrev two_of_time : List Page
two_of_time = page_with utc (pos 1 ∷ []) ∷ page_with clock (pos 2 ∷ []) ∷ page_with utc (pos 3 ∷ [])
    ∷ page_with utc [] ∷ []

with_each_page : map (λ n. reported_with all_values two_of_time n (Some (pos 1 ∷ pos 2 ∷ [])))
    (0 ∷ 1 ∷ 2 ∷ 4 ∷ [])
    ≡ Some (pos 1 ∷ []) ∷ None ∷ Some (pos 1 ∷ pos 2 ∷ pos 3 ∷ []) ∷ None ∷ []
with_each_page = refl

last_with_each : map (last_reported all_values two_of_time) (0 ∷ 1 ∷ 2 ∷ 3 ∷ 4 ∷ [])
    ≡ None ∷ Some (pos 1 ∷ []) ∷ Some (pos 1 ∷ []) ∷ Some (pos 1 ∷ pos 2 ∷ pos 3 ∷ [])
    ∷ Some (pos 1 ∷ pos 2 ∷ pos 3 ∷ []) ∷ []
unfolding last_reported
last_with_each = refl

new_with_last : map (λ n. new_set all_values (take n two_of_time)) (1 ∷ 2 ∷ 3 ∷ 4 ∷ [])
    ≡ Some (pos 1 ∷ []) ∷ None ∷ Some (pos 1 ∷ pos 2 ∷ pos 3 ∷ []) ∷ None ∷ []
unfolding new_set last_reported
new_with_last = refl

-- 13 values an almanac, the time being value 3 and the health value 6 from 0 on
abbrev numbered : List ℤ
numbered = map pos (range_with_len 0 416)

value_by_place : value_of_almanac numbered 2 (codes "toa")
    ∷ value_of_almanac numbered 31 (codes "health") ∷ value_of_almanac [] 0 (codes "toa") ∷ []
    ≡ pos 29 ∷ pos 409 ∷ pos 0 ∷ []
value_by_place = refl

set_by_places : almanac_set numbered ≡ record {
  toa = pos 3;
  health = map (λ k. pos (13 * k + 6)) (range_with_len 0 32);
}
set_by_places = refl

-- a clock page alone is no report, and a page of time is
reports_of_one : map (λ kind. (reports_of (page_with kind [] ∷ [])).page) (clock ∷ utc ∷ [])
    ≡ None ∷ Some (single (page_with utc [])) ∷ []
unfolding reports_of new_set last_reported
reports_of_one = refl
