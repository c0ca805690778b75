-- The page of a subframe that is found is the last page, and that of the last 300 bits.
use Rattle.std.proofs.Common.{◌≡◌, ℕ, suc, ◌+◌, ◌-◌, List, [], ◌∷◌, length, map}
use Rattle.std.proofs.Common.{refl, sym, ap, ◌∙◌, arith}
use Rattle.std.specs.Prelude.{Bool, true, false, Option, Some, None, cond, nat_eq, filter}
use Rattle.std.specs.Prelude.{filter_map, slice_get}
use Rattle.std.specs.List.{cons_option}
use Rattle.std.proofs.lemmas.Bool.{eqb-true, le-leb}
use Rattle.definitions.specs.Frames.{Found, found_by, found_among, gap_from, starts_of}
use Rattle.definitions.specs.Frames.{subframe_at}
use Rattle.definitions.specs.Pages.{Page, page_of}
use Rattle.definitions.specs.Events.{pages_among}
use Rattle.definitions.specs.SlotLaws.{IsLastPage}
use Rattle.definitions.proofs.FrameLemmas.{found-whole}
use Rattle.definitions.proofs.PageLemmas.{is-page-at}
use Rattle.definitions.proofs.StartLemmas.{Spaced, starts-spaced, ends_by, none-ends}

-- the last of a list
abbrev pub last_in : List Page → Option Page
last_in ps = slice_get ps (length ps - 1)

with-first : (p page : Page) (ps : List Page) → last_in ps ≡ Some page
    → last_in (p ∷ ps) ≡ Some page
with-first p page [] e = cc
with-first p page (q ∷ qs) e =
    let n : length (p ∷ q ∷ qs) - 1 ≡ suc (length (q ∷ qs) - 1) = omega arith in rw n e

with-option : (o : Option Page) (page : Page) (ps : List Page) → last_in ps ≡ Some page
    → last_in (cons_option o ps) ≡ Some page
with-option None page ps e = e
with-option (Some p) page ps e = with-first p page ps e

module _ (bits : List Bool) (found : Found) (page : Page)
    (is_page : page_of found.subframe ≡ Some page) where
  pages_at : List ℕ → List Page
  pages_at starts = filter_map page_of (map (subframe_at bits) starts)

  whole : List ℕ → List ℕ
  whole starts = filter (ends_by (length bits)) starts

  -- among starts that are 300 bits apart the one that is found is the last whose bits are all there
  last-found : (awaited : Option ℕ) (from : ℕ) (ns : List ℕ) → Spaced from ns
      → found_among bits awaited ns ≡ Some found → last_in (pages_at (whole ns)) ≡ Some page
  unfolding pages_at whole
  last-found awaited from [] spaced e = cc
  last-found awaited from (n ∷ ns) spaced e =
      by_end (nat_eq (n + 300) (length bits)) refl e
      (λ h. last-found (Some (n + 300)) (n + 300) ns spaced.1 h)
    where
      here : Found
      here = record { subframe = subframe_at bits n; gap = gap_from awaited n }

      with-start : (b : Bool) → last_in (pages_at (whole ns)) ≡ Some page
          → last_in (pages_at (cond b (n ∷ whole ns) (whole ns))) ≡ Some page
      with-start false h = h
      with-start true h = with-option (page_of (subframe_at bits n)) page (pages_at (whole ns)) h

      by_end : (b : Bool) → nat_eq (n + 300) (length bits) ≡ b
          → cond b (Some here) (found_among bits (Some (n + 300)) ns) ≡ Some found
          → (found_among bits (Some (n + 300)) ns ≡ Some found
          → last_in (pages_at (whole ns)) ≡ Some page)
          → last_in (pages_at (whole (n ∷ ns))) ≡ Some page
      by_end false other e next = with-start (ends_by (length bits) n) (next e)
      by_end true now e next =
          let end : n + 300 ≡ length bits = eqb-true (n + 300) (length bits) now in
          let the_found : here ≡ found = cc in
          let its_page : page_of (subframe_at bits n) ≡ Some page =
          ap (λ (f : Found). page_of f.subframe) the_found ∙ is_page in
          rw (
            le-leb (n + 300) (length bits) (omega arith),
            none-ends (length bits) (n + 300) (omega arith) ns spaced.1,
            its_page,
          ) refl

  -- so it is the last of the pages, and that of the last 300 bits
  module _ (is_found : found_by bits ≡ Some found) where
    pub page-is-last : last_in (pages_among bits) ≡ Some page
    unfolding pages_among starts_of found_by pages_at whole
    page-is-last =
        last-found None 0 (starts_of bits) (starts-spaced bits (length bits) 0) is_found

    pub is-last-page : IsLastPage bits page
    is-last-page =
        let it = found-whole bits found is_found in
        (it.0, it.2, is-page-at bits it.0 page it.1 (ap page_of (sym it.3) ∙ is_page))
