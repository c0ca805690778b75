-- What one page more makes reported.
use Rattle.std.proofs.Common.{◌≡◌, ◌≢◌, List, [], ◌∷◌, ◌++◌, refl, ap, ◌∙◌, sym, inl, inr}
use Rattle.std.specs.Prelude.{◌⊎◌, true, false, if◌then◌else◌, ℤ, Option, Some, None, option_map}
use Rattle.std.specs.Option.{option_and_then}
use Rattle.definitions.specs.Pages.{Kind, clock, eph2, eph3, Page}
use Rattle.definitions.specs.DataSets.{is_of, is_ephemeris, last_page, joined_values, ephemerides}
use Rattle.definitions.specs.DataSets.{ephemeris_of, differing, later, reported_so_far, new_set}
use Rattle.definitions.specs.DataSets.{ephemeris, single, page_report, reports_of}
use Rattle.definitions.proofs.SetLemmas.{new_set-more, reported_so_far-more}
use Rattle.subframes.specs.PageViews.{page_in}
use Rattle.subframes.specs.declared.page.Page.{Page as Shown}
use Rattle.subframes.specs.declared.page.Page.TheVariants.{Clock, Eph2, Eph3, Almanac, Utc, Health}
use Rattle.subframes.specs.declared.page.Page.TheVariants.{Message}
use Rattle.data_sets.specs.Standing.{last_values, AreLast, page_with, set_in}
use Rattle.data_sets.specs.declared.last_pages.LastPages.{LastPages}
use Rattle.data_sets.proofs.LastOfKind.{slice_get-last, last_values-more}

-- the set of the last pages rests on their values alone
set_in-is : (pages : List Page) (last : LastPages) → AreLast pages last
    → set_in last ≡ ephemeris_of pages
unfolding last_values
set_in-is pages last h =
    rw (h.clock, h.eph2, h.eph3)
    (by_pages (last_page (is_of clock) pages) (last_page (is_of eph2) pages)
    (last_page (is_of eph3) pages))
  where
    values_in : Option Page → Option (List ℤ)
    values_in page = option_map (λ (p : Page). p.values) page

    by_pages : (c e2 e3 : Option Page)
        → joined_values (option_map (page_with clock) (values_in c))
        (option_map (page_with eph2) (values_in e2)) (option_map (page_with eph3) (values_in e3))
        ≡ joined_values c e2 e3
    by_pages (Some c) (Some e2) (Some e3) = refl
    by_pages (Some c) (Some e2) None = refl
    by_pages (Some c) None third = refl
    by_pages None second third = refl

-- the values that are kept of a kind
abbrev kept : Kind → Page → Option (List ℤ) → Option (List ℤ)
kept kind page before = if is_of kind page then Some page.values else before

module _ (pages : List Page) (page : Page) where
  -- each kept page is this one, if it is of that kind
  pub kept-last : (old new : LastPages) → AreLast pages old → new.clock ≡ kept clock page old.clock
      → new.eph2 ≡ kept eph2 page old.eph2 → new.eph3 ≡ kept eph3 page old.eph3
      → AreLast (pages ++ page ∷ []) new
  kept-last old new h c e2 e3 = record {
    clock = c ∙ rw h.clock (sym (last_values-more clock pages page));
    eph2 = e2 ∙ rw h.eph2 (sym (last_values-more eph2 pages page));
    eph3 = e3 ∙ rw h.eph3 (sym (last_values-more eph3 pages page));
  }

  -- with a clock or ephemeris page
  pub looked_for-set : (last : LastPages) (before set : Option (List ℤ)) → is_ephemeris page ≡ true
      → AreLast (pages ++ page ∷ []) last → before ≡ reported_so_far ephemerides pages
      → set ≡ differing before (set_in last) → set ≡ new_set ephemerides (pages ++ page ∷ [])
  looked_for-set last before set is h b e =
      e ∙ rw (b, set_in-is (pages ++ page ∷ []) last h)
      (sym (new_set-more ephemerides pages page ∙ rw is refl))

  pub ephemeris-page : is_ephemeris page ≡ true
      → (reports_of (pages ++ page ∷ [])).page
      ≡ option_map ephemeris (new_set ephemerides (pages ++ page ∷ []))
  unfolding reports_of
  ephemeris-page is = ap (option_and_then (page_report (pages ++ page ∷ [])))
      (slice_get-last pages page) ∙ rw is refl

  -- with any other page
  pub other-set : is_ephemeris page ≡ false → new_set ephemerides (pages ++ page ∷ []) ≡ None
  other-set other = new_set-more ephemerides pages page ∙ rw other refl

  pub other-page : is_ephemeris page ≡ false
      → (reports_of (pages ++ page ∷ [])).page ≡ Some (single page)
  unfolding reports_of
  other-page other = ap (option_and_then (page_report (pages ++ page ∷ [])))
      (slice_get-last pages page) ∙ rw other refl

  -- what is reported so far, with a set or with none
  pub reported-more : (before now set : Option (List ℤ))
      → before ≡ reported_so_far ephemerides pages → set ≡ new_set ephemerides (pages ++ page ∷ [])
      → now ≡ later before set → now ≡ reported_so_far ephemerides (pages ++ page ∷ [])
  reported-more before now set b s e =
      e ∙ rw (b, s) (sym (reported_so_far-more ephemerides pages page))

-- ---- the pages of the code

-- it is of one of the three kinds
abbrev pub IsLookedFor : Shown → Type 0
IsLookedFor page = ((values : List ℤ) × (page ≡ Clock values))
    ⊎ ((values : List ℤ) × (page ≡ Eph2 values))
    ⊎ ((values : List ℤ) × (page ≡ Eph3 values))

is_looked_for : (page : Shown) → IsLookedFor page → is_ephemeris (page_in page) ≡ true
is_looked_for page (inl (values, e)) = rw e refl
is_looked_for page (inr (inl (values, e))) = rw e refl
is_looked_for page (inr (inr (values, e))) = rw e refl

pub is_other : (page : Shown) → ((values : List ℤ) → page ≢ Clock values)
    → ((values : List ℤ) → page ≢ Eph2 values) → ((values : List ℤ) → page ≢ Eph3 values)
    → is_ephemeris (page_in page) ≡ false
is_other (Clock values) a b c = absurd (a values refl)
is_other (Eph2 values) a b c = absurd (b values refl)
is_other (Eph3 values) a b c = absurd (c values refl)
is_other (Almanac values) a b c = refl
is_other (Utc values) a b c = refl
is_other (Health values) a b c = refl
is_other (Message characters) a b c = refl

pub other-last : (pages : List Page) (page : Shown) (last : LastPages)
    → is_ephemeris (page_in page) ≡ false → AreLast pages last
    → AreLast (pages ++ page_in page ∷ []) last
other-last pages (Clock values) last e h = cc
other-last pages (Eph2 values) last e h = cc
other-last pages (Eph3 values) last e h = cc
other-last pages (Almanac values) last e h =
    kept-last pages (page_in (Almanac values)) last last h refl refl refl
other-last pages (Utc values) last e h =
    kept-last pages (page_in (Utc values)) last last h refl refl refl
other-last pages (Health values) last e h =
    kept-last pages (page_in (Health values)) last last h refl refl refl
other-last pages (Message characters) last e h =
    kept-last pages (page_in (Message characters)) last last h refl refl refl

pub set-reported : (pages : List Page) (page : Shown) (set : Option (List ℤ)) → IsLookedFor page
    → set ≡ new_set ephemerides (pages ++ page_in page ∷ [])
    → option_map ephemeris set ≡ (reports_of (pages ++ page_in page ∷ [])).page
set-reported pages page set is e = ap (option_map ephemeris) e
    ∙ sym (ephemeris-page pages (page_in page) (is_looked_for page is))
