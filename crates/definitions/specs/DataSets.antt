-- Sets of pages over the pages since lock: clock and ephemeris of one issue of data (IS-GPS-200,
-- sections 20.3.3.3.1.5, 20.3.3.4.1 and 20.3.4.4), and the almanacs of all satellites for one time
-- (section 20.3.3.5.1.2).
use Rattle.std.specs.Prelude.{ℕ, zero, suc, ◌+◌, ◌-◌, ◌*◌, ◌==◌, ◌&&◌, ◌||◌, Bool, false}
use Rattle.std.specs.Prelude.{if◌then◌else◌, ℤ, pos, List, [], ◌∷◌, ◌++◌, map, flat_map, length}
use Rattle.std.specs.Prelude.{get_or, take, filter, slice_get, Option, Some, None}
use Rattle.std.specs.Prelude.{option_map, option_and_then, codes}
use Rattle.std.specs.List.{list_all, range_with_len}
use Rattle.std.specs.Option.{option_map_or}
use Rattle.std.specs.Ordering.{int_eq}
use lib.Pointwise.{pointwise}
use Rattle.std.specs.Int.{int_rem_euclid}
use Rattle.definitions.specs.Fields.{Field, place_of, clock_fields, eph2_fields, eph3_fields}
use Rattle.definitions.specs.Fields.{almanac_fields}
use Rattle.definitions.specs.Pages.{Kind, clock, eph2, eph3, almanac, utc, health, message, Page}

abbrev pub kind_number : Kind → ℕ
kind_number clock = 0
kind_number eph2 = 1
kind_number eph3 = 2
kind_number almanac = 3
kind_number utc = 4
kind_number health = 5
kind_number message = 6

abbrev pub is_of : Kind → Page → Bool
is_of kind page = kind_number kind == kind_number page.kind

abbrev pub is_ephemeris : Page → Bool
is_ephemeris page = is_of clock page || is_of eph2 page || is_of eph3 page

-- the last page that passes a test
abbrev pub last_page : (Page → Bool) → List Page → Option Page
last_page test pages = let those = filter test pages in slice_get those (length those - 1)

-- the value of the field of a name, of a page that has these fields
abbrev pub value_named : List Field → List ℕ → Page → ℤ
value_named fields name page = get_or page.values (place_of name fields) (pos 0)

-- ---- clock and ephemeris

-- the issues of data: IODC of a clock page, IODE of a subframe 2 and of a subframe 3
abbrev pub iodc : Page → ℤ
iodc page = value_named clock_fields (codes "iodc") page

abbrev pub iode : Page → ℤ
iode page = value_named eph2_fields (codes "iode") page

abbrev pub iode3 : Page → ℤ
iode3 page = value_named eph3_fields (codes "iode3") page

-- the low eight bits of the clock page's issue of data are the issue of data of the other two
abbrev pub belong_together : Page → Page → Page → Bool
belong_together c e2 e3 =
    int_eq (int_rem_euclid (iodc c) (pos 256)) (iode e2) && int_eq (iode e2) (iode3 e3)

abbrev pub joined_values : Option Page → Option Page → Option Page → Option (List ℤ)
joined_values (Some c) (Some e2) (Some e3) =
    if belong_together c e2 e3 then Some (c.values ++ e2.values ++ e3.values) else None
joined_values (Some c) (Some e2) None = None
joined_values (Some c) None third = None
joined_values None second third = None

-- the 31 values of the last page of each of the three kinds, where these belong together
abbrev pub ephemeris_of : List Page → Option (List ℤ)
ephemeris_of pages = joined_values (last_page (is_of clock) pages) (last_page (is_of eph2) pages)
    (last_page (is_of eph3) pages)

-- ---- almanacs

-- the SV ID of an almanac page, its time of applicability and its health
abbrev pub almanac_sv : Page → ℤ
almanac_sv page = value_named almanac_fields (codes "sv") page

abbrev pub toa_of : Page → ℤ
toa_of page = value_named almanac_fields (codes "toa") page

abbrev pub health_of : Page → ℤ
health_of page = value_named almanac_fields (codes "health") page

abbrev pub is_almanac_of : ℕ → Page → Bool
is_almanac_of sv page = is_of almanac page && int_eq (almanac_sv page) (pos sv)

-- the last almanac page of a satellite
abbrev pub last_almanac : List Page → ℕ → Option Page
last_almanac pages sv = last_page (is_almanac_of sv) pages

abbrev pub with_first : {A : Type 0} → Option A → Option (List A) → Option (List A)
with_first (Some x) (Some xs) = Some (x ∷ xs)
with_first (Some x) None = None
with_first None others = None

-- all of them, where each is there
abbrev pub all_there : {A : Type 0} → List (Option A) → Option (List A)
all_there [] = Some []
all_there (o ∷ os) = with_first o (all_there os)

abbrev pub have_one_toa : List Page → Bool
have_one_toa [] = false
have_one_toa (page ∷ pages) = list_all (λ (other : Page). int_eq (toa_of page) (toa_of other)) pages

abbrev pub values_for_one_toa : List Page → Option (List ℤ)
values_for_one_toa pages =
    if have_one_toa pages then Some (flat_map (λ (page : Page). page.values) pages) else None

-- the 13 values of the last almanac of each of the satellites 1 to 32, where all are there for one
-- time of applicability
abbrev pub almanacs_of : List Page → Option (List ℤ)
almanacs_of pages = option_and_then values_for_one_toa
    (all_there (map (last_almanac pages) (range_with_len 1 32)))

-- ---- what is reported

-- a kind of set: the pages with which it is looked for, and its values among the pages so far,
-- where it is there
pub record SetKind : Type 0 where
  pub is_looked_for : Page → Bool
  pub values_of : List Page → Option (List ℤ)

abbrev pub ephemerides : SetKind
ephemerides = record { is_looked_for = is_ephemeris; values_of = ephemeris_of }

abbrev pub almanac_sets : SetKind
almanac_sets = record { is_looked_for = is_of almanac; values_of = almanacs_of }

abbrev pub same_values : List ℤ → List ℤ → Bool
same_values xs ys = pointwise int_eq xs ys

-- the set that is there now, where it differs from the one reported last, or none was
abbrev pub differing : Option (List ℤ) → Option (List ℤ) → Option (List ℤ)
differing before None = None
differing None (Some now) = Some now
differing (Some before) (Some now) = if same_values before now then None else Some now

abbrev pub later : Option (List ℤ) → Option (List ℤ) → Option (List ℤ)
later before None = before
later before (Some now) = Some now

-- the set that is reported with page number n, after the one that was reported last
abbrev pub reported_with : SetKind → List Page → ℕ → Option (List ℤ) → Option (List ℤ)
reported_with kind pages n before =
    if option_map_or kind.is_looked_for (slice_get pages n) false
    then differing before (kind.values_of (take (n + 1) pages)) else None

-- the set that was reported last with the first n pages
unfoldable pub last_reported : SetKind → List Page → ℕ → Option (List ℤ)
last_reported kind pages zero = None
last_reported kind pages (suc n) = let before =
    last_reported kind pages n in later before (reported_with kind pages n before)

-- and with all pages so far
abbrev pub reported_so_far : SetKind → List Page → Option (List ℤ)
reported_so_far kind pages = last_reported kind pages (length pages)

-- the set that is reported with the last page
unfoldable pub new_set : SetKind → List Page → Option (List ℤ)
new_set kind pages = let n =
    length pages - 1 in reported_with kind pages n (last_reported kind pages n)

-- a report: the 31 values of a clock and ephemeris set, or a page
pub data Report : Type 0 where
  ephemeris : List ℤ → Report
  single : Page → Report

-- the time of applicability, and the health of each of the satellites 1 to 32
pub record AlmanacSet : Type 0 where
  pub toa : ℤ
  pub health : List ℤ

-- the value of the field of a name, of almanac number k of those whose values these are
abbrev pub value_of_almanac : List ℤ → ℕ → List ℕ → ℤ
value_of_almanac values k name =
    get_or values (length almanac_fields * k + place_of name almanac_fields) (pos 0)

abbrev pub almanac_set : List ℤ → AlmanacSet
almanac_set values = record {
  toa = value_of_almanac values 0 (codes "toa");
  health = map (λ k. value_of_almanac values k (codes "health")) (range_with_len 0 32);
}

-- what a page makes reported: a report of its own, and after it perhaps a set of almanacs
pub record Reports : Type 0 where
  pub page : Option Report
  pub set : Option AlmanacSet

-- an almanac, UTC, message or health page is reported each time; a clock or ephemeris page only as
-- the set that it completes
abbrev pub page_report : List Page → Page → Option Report
page_report pages page =
    if is_ephemeris page then option_map ephemeris (new_set ephemerides pages)
    else Some (single page)

-- what the last of the pages makes reported
unfoldable pub reports_of : List Page → Reports
reports_of pages = record {
  page = option_and_then (page_report pages) (slice_get pages (length pages - 1));
  set = option_map almanac_set (new_set almanac_sets pages);
}
