-- What is kept stands for the pages so far.
use Rattle.std.specs.Prelude.{◌≡◌, Bool, ℤ, List, length, map, Option, option_map}
use Rattle.std.specs.Prelude.{option_and_then, IfSome}
use Rattle.std.specs.List.{range_with_len, AllByRecursion}
use Rattle.definitions.specs.Pages.{Kind, clock, eph2, eph3, almanac, Page}
use Rattle.definitions.specs.DataSets.{is_of, last_page, belong_together, joined_values}
use Rattle.definitions.specs.DataSets.{last_almanac, all_there, values_for_one_toa}
use Rattle.definitions.specs.DataSets.{ephemerides, almanac_sets, reported_so_far}
use Rattle.subframes.specs.declared.almanac.TheConstants.{FIELDS_OF_ALMANAC}
use Rattle.data_sets.specs.declared.almanac_set.TheConstants.{SATELLITES}
use Rattle.data_sets.specs.declared.almanacs.Almanacs.{Almanacs}
use Rattle.data_sets.specs.declared.last_pages.LastPages.{LastPages}
use Rattle.data_sets.specs.declared.ephemerides.Ephemerides.{Ephemerides}
use Rattle.data_sets.specs.declared.data_sets.DataSets.{DataSets}

-- a page with these values
abbrev pub page_with : Kind → List ℤ → Page
page_with kind values = record { kind = kind; values = values }

-- the values of the last page of a kind
unfoldable pub last_values : Kind → List Page → Option (List ℤ)
last_values kind pages = option_map (λ (page : Page). page.values) (last_page (is_of kind) pages)

-- the last page of each of the three kinds, if there is one
pub record AreLast (pages : List Page) (last : LastPages) : Type 0 where
  pub clock : last.clock ≡ last_values clock pages
  pub eph2 : last.eph2 ≡ last_values eph2 pages
  pub eph3 : last.eph3 ≡ last_values eph3 pages

-- the last pages of the three kinds, and the set of them that was reported last, if one was
pub record Follows (pages : List Page) (sets : Ephemerides) : Type 0 where
  pub last : AreLast pages sets.last
  pub reported : sets.reported ≡ reported_so_far ephemerides pages

-- the values of the last almanac of each of the satellites 1 to 32, if there is one
unfoldable pub last_almanacs : List Page → List (Option (List ℤ))
last_almanacs pages =
    map (λ sv. option_map (λ (page : Page). page.values) (last_almanac pages sv))
    (range_with_len 1 32)

-- the values of these almanacs one after another, where all are there for one time
unfoldable pub almanac_values : List (Option (List ℤ)) → Option (List ℤ)
almanac_values almanacs =
    option_and_then values_for_one_toa (all_there (map (option_map (page_with almanac)) almanacs))

-- an almanac has a value for each of its fields, if it is there
abbrev pub IsWhole : Option (List ℤ) → Type 0
IsWhole known = IfSome known (λ values. length values ≡ FIELDS_OF_ALMANAC)

-- the last almanacs, and those of the set that was reported last, or none if none was
pub record FollowsAlmanacs (pages : List Page) (almanacs : Almanacs) : Type 0 where
  pub last : almanacs.last ≡ last_almanacs pages
  pub reported : almanac_values almanacs.reported ≡ reported_so_far almanac_sets pages
  pub long : length almanacs.reported ≡ SATELLITES
  pub whole : AllByRecursion IsWhole almanacs.reported

-- what is kept is what these pages leave, taken in this order
unfoldable pub StandsFor : List Page → DataSets → Type 0
StandsFor pages sets = Follows pages sets.ephemerides × FollowsAlmanacs pages sets.almanacs

-- ---- the set of the last pages

-- the values of a clock page and of both ephemeris pages belong together
abbrev pub are_of_one_issue : List ℤ → List ℤ → List ℤ → Bool
are_of_one_issue c e2 e3 =
    belong_together (page_with clock c) (page_with eph2 e2) (page_with eph3 e3)

-- the values of all three, where these are there and belong together
abbrev pub set_in : LastPages → Option (List ℤ)
set_in last = joined_values (option_map (page_with clock) last.clock) (option_map
    (page_with eph2) last.eph2) (option_map (page_with eph3) last.eph3)
