-- The last pages of each kind, with one page more.
use Rattle.std.proofs.Common.{◌≡◌, ◌-◌, ◌<◌, List, [], ◌∷◌, ◌++◌, length, refl, ap, ◌∙◌, arith}
use Rattle.std.proofs.Common.{length-append}
use Rattle.std.specs.Prelude.{Bool, true, false, if◌then◌else◌, filter, slice_get, Option, Some}
use Rattle.std.specs.Prelude.{option_map}
use Rattle.std.proofs.lemmas.List.{append-nil}
use Rattle.std.proofs.lemmas.List.Elements.{filter-append}
use Rattle.std.proofs.lemmas.Option.{slice_get-get_or}
use Rattle.std.proofs.Math.Seq.{get_or-append_seam}
use Rattle.definitions.specs.Pages.{Kind, Page}
use Rattle.definitions.specs.DataSets.{is_of, last_page}
use Rattle.data_sets.specs.Standing.{last_values}

-- the last of a list is the one that comes after all others
pub slice_get-last : {A : Type 0} (xs : List A) (x : A)
    → slice_get (xs ++ x ∷ []) (length (xs ++ x ∷ []) - 1) ≡ Some x
slice_get-last {A = A} xs x =
    let place : length (xs ++ x ∷ []) - 1 ≡ length xs = simp length-append (omega arith) in
    let within : length xs < length (xs ++ x ∷ []) = simp length-append (omega arith) in
    ap (slice_get (xs ++ x ∷ [])) place ∙ slice_get-get_or (xs ++ x ∷ []) (length xs) x within
    ∙ ap (λ (y : A). Some y) (get_or-append_seam xs x [] x)

pub last_page-more : (test : Page → Bool) (pages : List Page) (page : Page)
    → last_page test (pages ++ page ∷ []) ≡ (if test page then Some page else last_page test pages)
last_page-more test pages page = by_test (test page) refl
  where
    last_of : List Page → Option Page
    last_of those = slice_get those (length those - 1)

    by_test : (b : Bool) → test page ≡ b
        → last_page test (pages ++ page ∷ []) ≡ (if b then Some page else last_page test pages)
    by_test true e =
        let those : filter test (pages ++ page ∷ []) ≡ filter test pages ++ page ∷ [] =
        rw (filter-append test pages (page ∷ []), e) refl in
        ap last_of those ∙ slice_get-last (filter test pages) page
    by_test false e =
        let those : filter test (pages ++ page ∷ []) ≡ filter test pages =
        rw (filter-append test pages (page ∷ []), e) (append-nil (filter test pages)) in
        ap last_of those

pub last_values-more : (kind : Kind) (pages : List Page) (page : Page)
    → last_values kind (pages ++ page ∷ [])
    ≡ (if is_of kind page then Some page.values else last_values kind pages)
unfolding last_values
last_values-more kind pages page =
    ap (option_map (λ (p : Page). p.values)) (last_page-more (is_of kind) pages page)
    ∙ by_test (is_of kind page)
  where
    by_test : (b : Bool) → option_map (λ (p : Page). p.values)
        (if b then Some page else last_page (is_of kind) pages)
        ≡ (if b then Some page.values else option_map (λ (p : Page). p.values)
        (last_page (is_of kind) pages))
    by_test true = refl
    by_test false = refl
