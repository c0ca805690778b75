-- Worked examples of sets of pages.
use Rattle.std.proofs.Common.{◌≡◌, ℕ, List, [], ◌∷◌, ◌++◌, refl}
use Rattle.std.specs.Prelude.{ℤ, pos, neg_ℤ, map, take, replicate, Some, None, Bool, true, false}
use Rattle.std.specs.Prelude.{codes, flat_map}
use Rattle.std.specs.Option.{is_some}
use Rattle.std.specs.List.{range_with_len}
use Rattle.std.specs.Fmt.{digits}
use Rattle.definitions.specs.Pages.{Page, clock, eph2, eph3, almanac}
use Rattle.definitions.specs.DataSets.{reports_of, last_reported, new_set, AlmanacSet, single}
use Rattle.definitions.specs.Events.{almanacs}
use Rattle.definitions.specs.Texts.{event_text}
use Rattle.definitions.specs.Pages.{utc}
use Rattle.definitions.specs.Events.{report_events, reported}

abbrev clock_of_issue : ℕ → Page
clock_of_issue n = record {
  kind = clock;
  values =
      replicate 4 (pos 0) ++ pos n ∷ replicate 6 (pos 0);
}

abbrev second_of_issue : ℕ → Page
second_of_issue n = record { kind = eph2; values = pos n ∷ replicate 10 (pos 0) }

abbrev third_of_issue : ℕ → Page
third_of_issue n = record { kind = eph3; values = replicate 7 (pos 0) ++ pos n ∷ pos 0 ∷ [] }

abbrev pages : List Page
pages = clock_of_issue 7 ∷ second_of_issue 7 ∷ third_of_issue 8 ∷ second_of_issue 8
    ∷ clock_of_issue 8 ∷ clock_of_issue 8 ∷ []

-- whether each page of a list makes a report
abbrev reporting : List Page → List ℕ → List Bool
reporting all counts = map (λ n. is_some (reports_of (take n all)).page) counts

-- the last of five pages completes a set, and taken again it doesn't report it again
matching_issues : reporting pages (range_with_len 1 6)
    ≡ false ∷ false ∷ false ∷ false ∷ true ∷ false ∷ []
unfolding reports_of new_set last_reported
matching_issues = refl

-- one issue, then another, then the first again: three reports
returning_issue : reporting ((clock_of_issue 7 ∷ second_of_issue 7 ∷ third_of_issue 7 ∷ [])
    ++ (clock_of_issue 8 ∷ second_of_issue 8 ∷ third_of_issue 8 ∷ [])
    ++ (clock_of_issue 7 ∷ second_of_issue 7 ∷ third_of_issue 7 ∷ [])) (range_with_len 1 9)
    ≡ false ∷ false ∷ true ∷ false ∷ false ∷ true ∷ false ∷ false ∷ true ∷ []
unfolding reports_of new_set last_reported
returning_issue = refl

-- ---- almanacs

abbrev almanac_with : ℕ → ℕ → ℕ → Page
almanac_with sv toa health =
    record {
      kind = almanac;
      values = pos 0 ∷ pos sv ∷ pos 0 ∷ pos toa ∷ pos 0 ∷ pos 0 ∷ pos health ∷ replicate 6 (pos 0);
    }

abbrev all_satellites : List Page
all_satellites = map (λ sv. almanac_with sv 5 0) (range_with_len 1 32)

abbrev healthy : AlmanacSet
healthy = record { toa = pos 5; health = replicate 32 (pos 0) }

-- the last of 32 completes the set
not_before_the_last : (reports_of (take 31 all_satellites)).set ≡ None
unfolding reports_of new_set last_reported
not_before_the_last = refl

with_the_last : (reports_of all_satellites).set ≡ Some healthy
unfolding reports_of new_set last_reported
with_the_last = refl

-- another time of applicability, then the same again: no set
another_time : (reports_of (all_satellites ++ almanac_with 3 6 0 ∷ [])).set ≡ None
unfolding reports_of new_set last_reported
another_time = refl

same_again : (reports_of (all_satellites ++ almanac_with 3 6 0 ∷ almanac_with 3 5 0 ∷ [])).set
    ≡ None
unfolding reports_of new_set last_reported
same_again = refl

-- another health: a set
another_health : (reports_of (all_satellites
    ++ almanac_with 3 6 0 ∷ almanac_with 3 5 0 ∷ almanac_with 3 5 1 ∷ [])).set
    ≡ Some (record { toa = pos 5; health = pos 0 ∷ pos 0 ∷ pos 1 ∷ replicate 29 (pos 0) })
unfolding reports_of new_set last_reported
another_health = refl

-- each page is reported
each_page : reporting all_satellites (1 ∷ 17 ∷ 32 ∷ []) ≡ true ∷ true ∷ true ∷ []
unfolding reports_of new_set last_reported
each_page = refl

set_text : event_text 0 (almanacs healthy)
    ≡ codes "als 0 toa=5:12" ++ flat_map (λ n. codes " 0") (range_with_len 0 32)
unfolding event_text digits
set_text = refl

-- the two high bits of a clock page's issue don't matter
high_bits_of_issue : is_some
    (reports_of (clock_of_issue 519 ∷ second_of_issue 7 ∷ third_of_issue 7 ∷ [])).page ≡ true
unfolding reports_of new_set last_reported
high_bits_of_issue = refl

-- issues below zero, which no subframe has: the remainder of -249 is 7, and -5 isn't 0
abbrev clock_of_value : ℤ → Page
clock_of_value issue =
    record { kind = clock; values = replicate 4 (pos 0) ++ issue ∷ replicate 6 (pos 0) }

abbrev second_of_value : ℤ → Page
second_of_value issue = record { kind = eph2; values = issue ∷ replicate 10 (pos 0) }

negative_issue : is_some
    (reports_of (clock_of_value (neg_ℤ (pos 249)) ∷ second_of_issue 7 ∷ third_of_issue 7 ∷ [])).page
    ≡ true
unfolding reports_of new_set last_reported
negative_issue = refl

negative_is_not_zero : is_some
    (reports_of (clock_of_issue 0 ∷ second_of_value (neg_ℤ (pos 5)) ∷ third_of_issue 0 ∷ [])).page
    ≡ false
unfolding reports_of new_set last_reported
negative_is_not_zero = refl

-- the page that is reported is the last
last_is_told : (reports_of (almanac_with 3 5 0 ∷ almanac_with 4 6 1 ∷ [])).page
    ≡ Some (single (almanac_with 4 6 1))
unfolding reports_of new_set last_reported
last_is_told = refl

-- a page is reported before a set of almanacs that it completes
abbrev a_page : Page
a_page = record { kind = utc; values = [] }

abbrev a_set : AlmanacSet
a_set = record { toa = pos 1; health = [] }

page_before_set : report_events (record { page = Some (single a_page); set = Some a_set })
    ≡ reported (single a_page) ∷ almanacs a_set ∷ []
page_before_set = refl
