-- Proofs: the words of pages pass.
use Rattle.std.proofs.Common.{◌≡◌, ℕ, zero, suc, ◌+◌, ◌*◌, ◌<◌, ◌≤◌, List, [], ◌∷◌, refl, sym}
use Rattle.std.proofs.Common.{arith, ◌∙◌}
use Rattle.std.specs.Prelude.{Bool, true, false, Option, Some, None, cond, nat_le, map, filter}
use Rattle.std.specs.Prelude.{filter_map, slice_get, length, option_map}
use Rattle.std.specs.List.{range_with_len, list_all, AllByRecursion}
use Rattle.std.specs.List.{cons_option}
use Rattle.std.specs.Option.{is_some}
use Rattle.std.proofs.lemmas.Bool.{and_parts, leb-true}
use Rattle.definitions.specs.Parity.{passes, data_of, checked_data}
use Rattle.definitions.specs.Frames.{Subframe, starts_of, subframe_at, checked_at, word_at}
use Rattle.definitions.specs.Frames.{prior_at, is_complete}
use Rattle.definitions.specs.Fields.{value_of}
use Rattle.definitions.specs.Pages.{Kind, Page, fields_of, kind_of, page_of}
use Rattle.definitions.specs.Events.{pages_among}
use Rattle.definitions.specs.SlotLaws.{IsPageAt, PagesPass}
use Rattle.definitions.proofs.FrameLemmas.{starts-late}

all-some : (f : ℕ → Option ℕ) (a k i : ℕ)
    → list_all (λ (w : Option ℕ). is_some w) (map f (range_with_len a k)) ≡ true → i < k
    → is_some (f (a + i)) ≡ true
all-some f a zero i e h = absurd (omega arith)
all-some f a (suc k) zero e h = let z : a + 0 ≡ a = omega arith in rw z ((and_parts _ _ e).0)
all-some f a (suc k) (suc i) e h = let z : a + suc i ≡ (a + 1) + i = omega arith in
    rw z (all-some f (a + 1) k i (and_parts _ _ e).1 (omega arith))

some-passes : (word prior : ℕ) → is_some (checked_data word prior) ≡ true → passes word prior ≡ true
unfolding checked_data
some-passes word prior e = by_test (passes word prior) (data_of word prior) e
  where
    by_test : (b : Bool) (d : ℕ) → is_some (cond b (Some d) None) ≡ true → b ≡ true
    by_test true d e = refl
    by_test false d e = cc

page-complete : (s : Subframe) (page : Page) → page_of s ≡ Some page → is_complete s ≡ true
unfolding page_of
page-complete s page e = by_test (is_complete s) _ e
  where
    by_test : (b : Bool) (o : Option Page) → cond b o None ≡ Some page → b ≡ true
    by_test true o e = refl
    by_test false o e = cc

complete-passes : (bits : List Bool) (n i : ℕ) → i < 10 → is_complete (subframe_at bits n) ≡ true
    → passes (word_at bits (n + 30 * i)) (prior_at bits (n + 30 * i)) ≡ true
unfolding subframe_at checked_at
complete-passes bits n i h e =
    let z : 0 + i ≡ i = omega arith in
    some-passes (word_at bits (n + 30 * i)) (prior_at bits (n + 30 * i))
    (rw z at (all-some (λ k. checked_at bits (n + 30 * k)) 0 10 i e h))

pub is-page-at : (bits : List Bool) (n : ℕ) (page : Page) → 2 ≤ n
    → page_of (subframe_at bits n) ≡ Some page → IsPageAt bits n page
is-page-at bits n page late e = record {
  two_before = late;
  is_read = e;
  pass = λ i h. complete-passes bits n i h (page-complete (subframe_at bits n) page e);
}

abbrev IsFrom : List Bool → Page → Type 0
IsFrom bits page = (n : ℕ) × (2 ≤ n) × (n + 300 ≤ length bits)
    × (page_of (subframe_at bits n) ≡ Some page)

pages-from : (bits : List Bool) (starts : List ℕ) → AllByRecursion (λ n. 2 ≤ n) starts
    → (k : ℕ) (page : Page)
    → slice_get (filter_map page_of
    (map (subframe_at bits) (filter (λ n. nat_le (n + 300) (length bits)) starts))) k ≡ Some page
    → IsFrom bits page
pages-from bits [] all k page e = cc
pages-from bits (n ∷ ns) all k page e =
    by_test (filter (λ n. nat_le (n + 300) (length bits)) ns)
    (nat_le (n + 300) (length bits)) refl e (λ j h. pages-from bits ns all.1 j page h)
  where
    by_page : (ps : List Page) → n + 300 ≤ length bits → (o : Option Page)
        → page_of (subframe_at bits n) ≡ o → (k : ℕ) → slice_get (cons_option o ps) k ≡ Some page
        → ((j : ℕ) → slice_get ps j ≡ Some page → IsFrom bits page) → IsFrom bits page
    by_page ps within None o k e next = next k e
    by_page ps within (Some p) o zero e next = (n, all.0, within, o ∙ e)
    by_page ps within (Some p) o (suc k) e next = next k e

    by_test : (fs : List ℕ) (b : Bool) → nat_le (n + 300) (length bits) ≡ b
        → slice_get (filter_map page_of (map (subframe_at bits) (cond b (n ∷ fs) fs))) k ≡ Some page
        → ((j : ℕ) → slice_get (filter_map page_of (map (subframe_at bits) fs)) j ≡ Some page
        → IsFrom bits page) → IsFrom bits page
    by_test fs false ends e next = next k e
    by_test fs true ends e next =
        by_page (filter_map page_of (map (subframe_at bits) fs))
        (leb-true (n + 300) (length bits) ends) (page_of (subframe_at bits n)) refl k e next

pub pages-pass : PagesPass
unfolding pages_among starts_of
pages-pass bits k page e =
    let from = pages-from bits (starts_of bits) (starts-late bits (length bits) 0) k page e in (
      from.0,
      from.2,
      is-page-at bits from.0 page from.1 from.3,
    )

-- ---- what holds of each page that is made of a subframe, holds of all pages

-- the page of a kind, as it is read of a subframe
abbrev pub page_as : Subframe → Kind → Page
page_as s k = record { kind = k; values = map (value_of s) (fields_of k) }

pub all-from : (P : Page → Type 0) (ps : List Page)
    → ((k : ℕ) (page : Page) → slice_get ps k ≡ Some page → P page) → AllByRecursion P ps
all-from P [] each = tt
all-from P (p ∷ ps) each = (each 0 p refl, all-from P ps (λ k page there. each (suc k) page there))

module _ (P : Page → Type 0) (made : (s : Subframe) (k : Kind) → P (page_as s k)) where
  pub page_of-has : (s : Subframe) (page : Page) → page_of s ≡ Some page → P page
  unfolding page_of
  page_of-has s page e = by_test (is_complete s) (kind_of s) e
    where
      by_test : (b : Bool) (o : Option Kind)
          → cond b (option_map (page_as s) o) None ≡ Some page → P page
      by_test false o e = cc
      by_test true None e = cc
      by_test true (Some k) e = let it : page_as s k ≡ page = cc in rw (sym it) (made s k)

  pub pages_among-have : (bits : List Bool) → AllByRecursion P (pages_among bits)
  pages_among-have bits = all-from P (pages_among bits)
      (λ k page there. let from = pages-pass bits k page there in
      page_of-has (subframe_at bits from.0) page (from.2).is_read)
