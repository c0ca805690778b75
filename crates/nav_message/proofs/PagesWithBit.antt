-- What one more bit adds to the pages: that of the subframe which it makes whole, if it makes one.
use Rattle.std.proofs.Common.{inl, inr, ◌≡◌, ◌≢◌, ℕ, ◌+◌, ◌<◌, ◌≤◌, List, [], ◌∷◌}
use Rattle.std.proofs.Common.{◌++◌, length, map, refl, ap, sym, ◌∙◌, arith}
use Rattle.std.specs.Prelude.{Bool, true, false, Option, Some, None, cond}
use Rattle.std.specs.Prelude.{filter, filter_map, ◌⊎◌}
use Rattle.std.specs.List.{cons_option}
use Rattle.std.proofs.lemmas.Bool.{le-leb, lt-leb, cases_lt, cases_eq}
use Rattle.std.proofs.lemmas.Bool.{eq-eqb, ne_eqb}
use Rattle.std.proofs.lemmas.List.{append-nil}
use Rattle.std.proofs.lemmas.List.Elements.{filter-append}
use Rattle.definitions.specs.Frames.{Found, subframe_at, starts_of, found_by}
use Rattle.definitions.specs.Frames.{found_among}
use Rattle.definitions.specs.Pages.{Page, page_of}
use Rattle.definitions.specs.DataSets.{Reports, reports_of}
use Rattle.definitions.specs.Events.{pages_among, events_of, gap, subframe, report_events}
use Rattle.definitions.specs.Events.{bit_events}
use Rattle.definitions.proofs.StartLemmas.{subframe_at-append, Spaced, starts-spaced}
use Rattle.definitions.proofs.StartLemmas.{ends_by, none-ends}
use Rattle.frame_sync.proofs.MoreStarts.{longer, place, is_start, added, next_behind}
use Rattle.frame_sync.proofs.MoreStarts.{length-longer, starts_of-more}

-- ---- pages of the subframes that are whole

abbrev pages_at : List Bool → List ℕ → List Page
pages_at bits starts = filter_map page_of (map (subframe_at bits) starts)

abbrev pub page_found : Option Found → List Page
page_found None = []
page_found (Some found) = cons_option (page_of found.subframe) []

with-page : (xs ys zs : List Page) (o : Option Page) → xs ≡ ys ++ zs
    → cons_option o xs ≡ cons_option o ys ++ zs
with-page xs ys zs None e = e
with-page xs ys zs (Some page) e = ap (λ (ps : List Page). page ∷ ps) e

module _ (bits : List Bool) (bit : Bool) where
  abbrev after : List Bool
  after = longer bits bit

  -- among starts that are 300 bits apart
  pages-more : (awaited : Option ℕ) (from : ℕ) (ns : List ℕ) → Spaced from ns
      → pages_at after (filter (ends_by (length after)) ns)
      ≡ pages_at bits (filter (ends_by (length bits)) ns)
      ++ page_found (found_among after awaited ns)
  pages-more awaited from [] spaced = refl
  pages-more awaited from (n ∷ ns) spaced =
      by_end (cases_eq (n + 300) (length after)) (cases_lt (length bits) (n + 300))
      (λ a. pages-more a (n + 300) ns spaced.1)
    where
      long : length after ≡ length bits + 1
      long = length-longer bits bit

      by_end : ((n + 300 ≡ length after) ⊎ (n + 300 ≢ length after))
          → ((length bits < n + 300) ⊎ (n + 300 ≤ length bits))
          → ((a : Option ℕ) → pages_at after (filter (ends_by (length after)) ns)
          ≡ pages_at bits (filter (ends_by (length bits)) ns)
          ++ page_found (found_among after a ns))
          → pages_at after (filter (ends_by (length after)) (n ∷ ns))
          ≡ pages_at bits (filter (ends_by (length bits)) (n ∷ ns))
          ++ page_found (found_among after awaited (n ∷ ns))
      by_end (inl now) (inl later) next =
          let ended : n + 300 ≤ length after = omega arith in
          let far : length after < n + 300 + 300 = omega arith in
          let before : length bits < n + 300 + 300 = omega (arith, long) in
          rw (
            le-leb (n + 300) (length after) ended,
            lt-leb (n + 300) (length bits) later,
            eq-eqb (n + 300) (length after) now,
            none-ends (length after) (n + 300) far ns spaced.1,
            none-ends (length bits) (n + 300) before ns spaced.1,
          ) refl
      by_end (inl now) (inr whole) next = absurd (omega (arith, long))
      by_end (inr other) (inl later) next =
          let past : length after < n + 300 = omega (arith, long, later, other) in
          rw (
            lt-leb (n + 300) (length after) past,
            lt-leb (n + 300) (length bits) later,
            ne_eqb (n + 300) (length after) other,
          ) (next (Some (n + 300)))
      by_end (inr other) (inr whole) next =
          let ended : n + 300 ≤ length after = omega (arith, long) in
          rw (
            le-leb (n + 300) (length after) ended,
            le-leb (n + 300) (length bits) whole,
            ne_eqb (n + 300) (length after) other,
            subframe_at-append bits (bit ∷ []) n whole,
          ) (with-page _ _ _ (page_of (subframe_at bits n)) (next (Some (n + 300))))

  -- a start that the bit adds is not whole
  added-open : (from : ℕ) → filter (ends_by (length bits)) (added bits bit from) ≡ []
  added-open from = by_test (is_start bits bit from)
    where
      by_test : (b : Bool) → filter (ends_by (length bits)) (cond b (place bits bit ∷ []) []) ≡ []
      by_test false = refl
      by_test true =
          rw (lt-leb (place bits bit + 300) (length bits) (omega arith)) refl

  pages_among-more : pages_among (bits ++ bit ∷ [])
      ≡ pages_among bits ++ page_found (found_by (bits ++ bit ∷ []))
  unfolding pages_among found_by starts_of
  pages_among-more =
      pages-more None 0 (starts_of after) spaced
      ∙ ap (λ (ns : List ℕ). pages_at bits ns ++ page_found (found_among after None
      (starts_of after))) same
    where
      spaced : Spaced 0 (starts_of after)
      spaced = starts-spaced after (length after) 0

      same : filter (ends_by (length bits)) (starts_of after)
          ≡ filter (ends_by (length bits)) (starts_of bits)
      same =
          ap (filter (ends_by (length bits))) (starts_of-more bits bit)
          ∙ filter-append (ends_by (length bits)) (starts_of bits)
          (added bits bit (next_behind 0 (starts_of bits)))
          ∙ ap (λ (ns : List ℕ). filter (ends_by (length bits)) (starts_of bits) ++ ns)
          (added-open (next_behind 0 (starts_of bits)))
          ∙ append-nil (filter (ends_by (length bits)) (starts_of bits))

  -- ---- what the bit reports

  pub none-read : None ≡ found_by (bits ++ bit ∷ [])
      → pages_among (bits ++ bit ∷ []) ≡ pages_among bits
  none-read none = pages_among-more
      ∙ ap (λ (o : Option Found). pages_among bits ++ page_found o) (sym none)
      ∙ append-nil (pages_among bits)

  module _ (found : Found) (is : Some found ≡ found_by (bits ++ bit ∷ [])) where
    pub no_page-read : page_of found.subframe ≡ None
        → pages_among (bits ++ bit ∷ []) ≡ pages_among bits
    no_page-read none = pages_among-more
        ∙ ap (λ (o : Option Found). pages_among bits ++ page_found o) (sym is)
        ∙ ap (λ (o : Option Page). pages_among bits ++ cons_option o []) none
        ∙ append-nil (pages_among bits)

    pub page-read : (page : Page) → page_of found.subframe ≡ Some page
        → pages_among (bits ++ bit ∷ []) ≡ pages_among bits ++ page ∷ []
    page-read page e = pages_among-more
        ∙ ap (λ (o : Option Found). pages_among bits ++ page_found o) (sym is)
        ∙ ap (λ (o : Option Page). pages_among bits ++ cons_option o []) e

    pub no_page-told : page_of found.subframe ≡ None
        → events_of gap found.gap ++ subframe found.subframe ∷ [] ++ []
        ≡ bit_events (bits ++ bit ∷ []) (found_by (bits ++ bit ∷ []))
    no_page-told none = rw (sym is, none) refl

    pub page-told : (page : Page) → page_of found.subframe ≡ Some page → (reports : Reports)
        → reports ≡ reports_of (pages_among bits ++ page ∷ [])
        → events_of gap found.gap ++ subframe found.subframe ∷ [] ++ report_events reports
        ≡ bit_events (bits ++ bit ∷ []) (found_by (bits ++ bit ∷ []))
    page-told page e reports r = rw (r, sym is, e, page-read page e) refl
