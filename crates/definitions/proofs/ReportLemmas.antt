-- What a page makes reported is among the pages.
use Rattle.std.proofs.Common.{◌≡◌, ◌+◌, ◌-◌, List, [], ◌∷◌, ◌++◌, length, take, refl, sym, ap, ◌∙◌}
use Rattle.std.proofs.Common.{arith}
use Rattle.std.specs.Prelude.{Bool, true, false, ℤ, Option, Some, None, slice_get, cond}
use Rattle.std.specs.Prelude.{if◌then◌else◌, option_map, option_and_then}
use Rattle.std.specs.Option.{option_map_or}
use Rattle.std.proofs.Math.Seq.{take-length}
use Rattle.definitions.specs.Pages.{Kind, Page, clock, eph2, eph3, almanac}
use Rattle.definitions.specs.DataSets.{SetKind, Report, ephemeris, single, AlmanacSet, almanac_set}
use Rattle.definitions.specs.DataSets.{last_page, is_of, is_ephemeris, belong_together}
use Rattle.definitions.specs.DataSets.{joined_values}
use Rattle.definitions.specs.DataSets.{ephemeris_of, ephemerides, almanac_sets, new_set}
use Rattle.definitions.specs.DataSets.{reported_with, last_reported, differing, same_values}
use Rattle.definitions.specs.DataSets.{page_report, reports_of}
use Rattle.definitions.specs.Events.{pages_among}
use Rattle.definitions.specs.EventLaws.{IsLatest, IsEphemeris, IsReport, IsAlmanacSet}
use Rattle.definitions.specs.EventLaws.{IsWithPage}
use Rattle.definitions.specs.SlotLaws.{IsLastPage}
use Rattle.definitions.proofs.LastPageLemmas.{last_in}
use Rattle.definitions.proofs.AlmanacLemmas.{set-agrees, last-passes}

-- ---- sets of pages
new-set : (kind : SetKind) (pages : List Page) (values : List ℤ) → new_set kind pages ≡ Some values
    → kind.values_of pages ≡ Some values
unfolding new_set
new-set kind pages values e = by_pages pages e
  where
    differs : (before now : Option (List ℤ)) → differing before now ≡ Some values
        → now ≡ Some values
    differs before None e = cc
    differs None (Some now) e = e
    differs (Some before) (Some now) e = by_same (same_values before now) e
      where
        by_same : (b : Bool) → (if b then None else Some now) ≡ Some values → Some now ≡ Some values
        by_same true e = cc
        by_same false e = e

    by_looked : (b : Bool) (o before : Option (List ℤ))
        → (if b then differing before o else None) ≡ Some values → o ≡ Some values
    by_looked false o before e = cc
    by_looked true o before e = differs before o e

    by_pages : (pages : List Page)
        → reported_with kind pages (length pages - 1) (last_reported kind pages (length pages - 1))
        ≡ Some values → kind.values_of pages ≡ Some values
    by_pages [] e = cc
    by_pages (p ∷ ps) e =
        let n : length (p ∷ ps) - 1 + 1 ≡ length (p ∷ ps) = omega arith in
        let whole : take (length (p ∷ ps) - 1 + 1) (p ∷ ps) ≡ p ∷ ps =
        rw n (take-length (p ∷ ps)) in
        ap kind.values_of (sym whole)
        ∙ by_looked (option_map_or kind.is_looked_for (slice_get (p ∷ ps) (length (p ∷ ps) - 1))
        false) (kind.values_of (take (length (p ∷ ps) - 1 + 1) (p ∷ ps)))
        (last_reported kind (p ∷ ps) (length (p ∷ ps) - 1)) e

-- the page with which it is reported is the last page, and that of the last 300 bits
module _ (bits : List Bool) (last : Page) (is_last : last_in (pages_among bits) ≡ Some last)
    (is_new : IsLastPage bits last) where
  latest : (kind : Kind) (page : Page) → last_page (is_of kind) (pages_among bits) ≡ Some page
      → IsLatest bits kind page
  latest kind page e =
      record { is_last = e; is_page = last-passes bits (is_of kind) page e }

  has-ephemeris : (values : List ℤ) → ephemeris_of (pages_among bits) ≡ Some values
      → IsEphemeris bits values
  has-ephemeris values e =
      by_pages (last_page (is_of clock) (pages_among bits))
      (last_page (is_of eph2) (pages_among bits)) (last_page (is_of eph3) (pages_among bits)) refl
      refl refl e
    where
      by_issue : (b : Bool) (all : List ℤ) → cond b (Some all) None ≡ Some values
          → (b ≡ true) × (values ≡ all)
      by_issue true all e = (refl, cc)
      by_issue false all e = cc

      by_pages : (o p q : Option Page) → last_page (is_of clock) (pages_among bits) ≡ o
          → last_page (is_of eph2) (pages_among bits) ≡ p
          → last_page (is_of eph3) (pages_among bits) ≡ q → joined_values o p q ≡ Some values
          → IsEphemeris bits values
      by_pages (Some c) (Some e2) (Some e3) f g h e =
          let it = by_issue (belong_together c e2 e3) (c.values ++ e2.values ++ e3.values) e in (
            c,
            e2,
            e3,
            latest clock c f,
            latest eph2 e2 g,
            latest eph3 e3 h,
            it.0,
            it.1,
          )
      by_pages (Some c) (Some e2) None f g h e = cc
      by_pages (Some c) None q f g h e = cc
      by_pages None p q f g h e = cc

  pub is-report : (r : Report) → (reports_of (pages_among bits)).page ≡ Some r → IsReport bits r
  unfolding reports_of
  is-report r e = by_page (last_in (pages_among bits)) is_last e
    where
      of_set : is_ephemeris last ≡ true → (o : Option (List ℤ))
          → new_set ephemerides (pages_among bits) ≡ o → option_map ephemeris o ≡ Some r
          → IsReport bits r
      of_set kind None is e = cc
      of_set kind (Some values) is e =
          let it : ephemeris values ≡ r = cc in
          let all : IsEphemeris bits values =
          has-ephemeris values (new-set ephemerides (pages_among bits) values is) in
          rw (sym it) (all, (last, kind, is_new))

      by_kind : (b : Bool) → is_ephemeris last ≡ b
          → cond b (option_map ephemeris (new_set ephemerides (pages_among bits)))
          (Some (single last)) ≡ Some r → IsReport bits r
      by_kind true kind e = of_set kind (new_set ephemerides (pages_among bits)) refl e
      by_kind false kind e = let it : single last ≡ r = cc in rw (sym it) is_new

      by_page : (o : Option Page) → o ≡ Some last
          → option_and_then (page_report (pages_among bits)) o ≡ Some r → IsReport bits r
      by_page None is e = cc
      by_page (Some page) is e = let it : page ≡ last = cc in
          by_kind (is_ephemeris last) refl (rw it at e)

  -- a set of almanacs comes with an almanac
  pub with-almanac : (set : AlmanacSet) → (reports_of (pages_among bits)).set ≡ Some set
      → IsWithPage bits (is_of almanac)
  unfolding reports_of new_set
  with-almanac set e = of_set (new_set almanac_sets (pages_among bits)) refl e
    where
      by_test : (b : Bool) (o : Option (List ℤ)) (values : List ℤ) → cond b o None ≡ Some values
          → b ≡ true
      by_test true o values e = refl
      by_test false o values e = cc

      of_set : (o : Option (List ℤ)) → new_set almanac_sets (pages_among bits) ≡ o
          → option_map almanac_set o ≡ Some set → IsWithPage bits (is_of almanac)
      of_set None is e = cc
      of_set (Some values) is e =
          (last, by_test (is_of almanac last) _ values (rw is_last at is), is_new)

pub is-almanac_set : (bits : List Bool) (set : AlmanacSet)
    → (reports_of (pages_among bits)).set ≡ Some set → IsAlmanacSet bits set
unfolding reports_of
is-almanac_set bits set e = of_set (new_set almanac_sets (pages_among bits)) refl e
  where
    of_set : (o : Option (List ℤ)) → new_set almanac_sets (pages_among bits) ≡ o
        → option_map almanac_set o ≡ Some set → IsAlmanacSet bits set
    of_set None is e = cc
    of_set (Some values) is e =
        let it : almanac_set values ≡ set = cc in
        rw (sym it) (set-agrees bits values (new-set almanac_sets (pages_among bits) values is))
