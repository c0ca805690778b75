-- The last almanacs, with one page more.
use Rattle.std.proofs.Common.{◌≡◌, ◌≢◌, ℕ, zero, suc, ◌+◌, ◌-◌, ◌<◌, ◌≤◌, List, [], ◌∷◌, ◌++◌}
use Rattle.std.proofs.Common.{length, map}
use Rattle.std.proofs.Common.{refl, ap, sym, ◌∙◌, arith, slice_set}
use Rattle.std.specs.Prelude.{⊤, Bool, true, false, if◌then◌else◌, ℤ, pos, negsuc, Option, Some}
use Rattle.std.specs.Prelude.{None}
use Rattle.std.specs.Prelude.{option_map, option_and_then, filter, get_or}
use Rattle.std.specs.List.{AllByRecursion, range_with_len}
use Rattle.std.specs.Ordering.{int_eq}
use Rattle.std.specs.Int.Signed.{le_z}
use Rattle.std.specs.Cmp.{signed_Decides}
use Rattle.std.proofs.Math.IntN.{nat_abs}
use Rattle.std.proofs.Math.Path.{ap₂}
use Rattle.std.proofs.lemmas.Bool.{and_parts, leb-true, leb-false}
use Rattle.definitions.specs.Pages.{Kind, clock, eph2, eph3, almanac, utc, health, message, Page}
use Rattle.definitions.specs.DataSets.{is_of, is_almanac_of, last_almanac, almanacs_of}
use Rattle.definitions.specs.DataSets.{all_there, values_for_one_toa}
use Rattle.definitions.proofs.AlmanacLemmas.{filter-at}
use Rattle.data_sets.specs.Standing.{page_with, last_almanacs, almanac_values}
use Rattle.data_sets.proofs.LastOfKind.{last_page-more}

-- ---- a list over numbers, of which one is replaced

same-map : {X : Type 0} (f g : ℕ → X) (a n : ℕ) → ((j : ℕ) → a ≤ j → j < a + n → g j ≡ f j)
    → map f (range_with_len a n) ≡ map g (range_with_len a n)
same-map f g a zero same = refl
same-map f g a (suc n) same =
    ap₂ (λ x xs. x ∷ xs) (sym (same a (omega arith) (omega arith)))
    (same-map f g (a + 1) n (λ j low high. same j (omega arith) (omega arith)))

set-map : {X : Type 0} (f g : ℕ → X) (x : X) (a n i : ℕ) → i < n → g (a + i) ≡ x
    → ((j : ℕ) → a ≤ j → j < a + n → j ≢ a + i → g j ≡ f j)
    → slice_set (map f (range_with_len a n)) i x ≡ map g (range_with_len a n)
set-map f g x a zero i h e same = absurd (omega arith)
set-map f g x a (suc n) zero h e same =
    let place : a + 0 ≡ a = omega arith in
    ap₂ (λ y ys. y ∷ ys) (sym e ∙ ap g place)
    (same-map f g (a + 1) n (λ j low high. same j (omega arith) (omega arith) (λ is. omega arith)))
set-map f g x a (suc n) (suc i) h e same =
    let place : a + suc i ≡ a + 1 + i = omega arith in
    ap₂ (λ y ys. y ∷ ys) (sym (same a (omega arith) (omega arith) (λ is. omega arith)))
    (set-map f g x (a + 1) n i (omega arith) (ap g (sym place) ∙ e)
    (λ j low high other. same j (omega arith) (omega arith) (λ is. other (is ∙ place))))

-- ---- one page more

abbrev values_of : List Page → ℕ → Option (List ℤ)
values_of pages sv = option_map (λ (page : Page). page.values) (last_almanac pages sv)

values-more : (pages : List Page) (page : Page) (sv : ℕ) → values_of (pages ++ page ∷ []) sv
    ≡ (if is_almanac_of sv page then Some page.values else values_of pages sv)
values-more pages page sv =
    ap (option_map (λ (p : Page). p.values)) (last_page-more (is_almanac_of sv) pages page)
    ∙ by_test (is_almanac_of sv page)
  where
    by_test : (b : Bool) → option_map (λ (p : Page). p.values)
        (if b then Some page else last_almanac pages sv)
        ≡ (if b then Some page.values else values_of pages sv)
    by_test true = refl
    by_test false = refl

-- a page of another kind
pub other-kind : (pages : List Page) (page : Page) → is_of almanac page ≡ false
    → last_almanacs (pages ++ page ∷ []) ≡ last_almanacs pages
unfolding last_almanacs
other-kind pages page e = same-map (values_of (pages ++ page ∷ [])) (values_of pages) 1 32
    (λ sv low high. sym (values-more pages page sv ∙ rw e refl))

-- an almanac of none of the satellites
pub other-satellite : (pages : List Page) (values : List ℤ)
    → ((sv : ℕ) → 1 ≤ sv → sv ≤ 32 → get_or values 1 (pos 0) ≢ pos sv)
    → last_almanacs pages ≡ last_almanacs (pages ++ page_with almanac values ∷ [])
unfolding last_almanacs
other-satellite pages values other =
    same-map (values_of pages) (values_of (pages ++ page_with almanac values ∷ [])) 1 32
    (λ sv low high. values-more pages (page_with almanac values) sv
    ∙ by_test sv (int_eq (get_or values 1 (pos 0)) (pos sv)) refl
    (other sv low (omega arith)))
  where
    by_test : (sv : ℕ) (b : Bool) → int_eq (get_or values 1 (pos 0)) (pos sv) ≡ b
        → get_or values 1 (pos 0) ≢ pos sv
        → (if b then Some values else values_of pages sv) ≡ values_of pages sv
    by_test sv true e not = absurd (not ((signed_Decides (get_or values 1 (pos 0)) (pos sv)).0 e))
    by_test sv false e not = refl

-- an almanac of one
pub of-satellite : (pages : List Page) (values : List ℤ) (sv : ℕ) → 1 ≤ sv → sv ≤ 32
    → get_or values 1 (pos 0) ≡ pos sv
    → slice_set (last_almanacs pages) (sv - 1) (Some values)
    ≡ last_almanacs (pages ++ page_with almanac values ∷ [])
unfolding last_almanacs
of-satellite pages values sv low high e =
    set-map (values_of pages) (values_of more) (Some values) 1 32 (sv - 1) (omega arith)
    (ap (values_of more) place ∙ values-more pages (page_with almanac values) sv
    ∙ by_it (int_eq (get_or values 1 (pos 0)) (pos sv))
    ((signed_Decides (get_or values 1 (pos 0)) (pos sv)).1 e))
    (λ j from to other. values-more pages (page_with almanac values) j
    ∙ by_other j (int_eq (get_or values 1 (pos 0)) (pos j)) refl (λ is. other (is ∙ sym place)))
  where
    more : List Page
    more = pages ++ page_with almanac values ∷ []

    place : 1 + (sv - 1) ≡ sv
    place = omega arith

    by_it : (b : Bool) → b ≡ true → (if b then Some values else values_of pages sv) ≡ Some values
    by_it true is = refl
    by_it false is = cc

    by_other : (j : ℕ) (b : Bool) → int_eq (get_or values 1 (pos 0)) (pos j) ≡ b → j ≢ sv
        → (if b then Some values else values_of pages j) ≡ values_of pages j
    by_other j true is not =
        let same : pos j ≡ pos sv =
        sym ((signed_Decides (get_or values 1 (pos 0)) (pos j)).0 is) ∙ e in
        absurd (not cc)
    by_other j false is not = refl

-- ---- the numbers of satellites

-- a number from 1 to 32 is that of one
pub satellite : (z : ℤ) → le_z (pos 1) z ≡ true → le_z z (pos 32) ≡ true
    → (1 ≤ nat_abs z) × (nat_abs z ≤ 32) × (z ≡ pos (nat_abs z))
satellite (pos n) low high = (leb-true 1 n low, leb-true n 32 high, refl)
satellite (negsuc n) low high = cc

-- and no other is
pub not-from-one : (z : ℤ) (sv : ℕ) → le_z (pos 1) z ≡ false → 1 ≤ sv → z ≢ pos sv
not-from-one z sv e low is = let h : sv < 1 = leb-false 1 sv (ap (le_z (pos 1)) (sym is) ∙ e) in
    omega arith

pub not-to-32 : (z : ℤ) (sv : ℕ) → le_z z (pos 32) ≡ false → sv ≤ 32 → z ≢ pos sv
not-to-32 z sv e high is =
    let h : 32 < sv = leb-false sv 32 (ap (λ (y : ℤ). le_z y (pos 32)) (sym is) ∙ e) in
    omega arith

-- ---- the values of the last almanacs are those of their set

any-page : (pages : List Page) → AllByRecursion (λ (page : Page). ⊤) pages
any-page [] = tt
any-page (page ∷ pages) = (tt, any-page pages)

an-almanac : (page : Page) → is_of almanac page ≡ true → page_with almanac page.values ≡ page
an-almanac page e = by_kind page.kind refl e
  where
    by_kind : (kind : Kind) → page.kind ≡ kind → is_of almanac (page_with kind page.values) ≡ true
        → page_with almanac page.values ≡ page
    by_kind almanac is e = rw (sym is) refl
    by_kind clock is e = cc
    by_kind eph2 is e = cc
    by_kind eph3 is e = cc
    by_kind utc is e = cc
    by_kind health is e = cc
    by_kind message is e = cc

shown-again : (pages : List Page) (sv : ℕ)
    → option_map (page_with almanac) (values_of pages sv) ≡ last_almanac pages sv
shown-again pages sv = by_page (last_almanac pages sv) refl
  where
    by_page : (o : Option Page) → last_almanac pages sv ≡ o → option_map (page_with almanac)
        (option_map (λ (page : Page). page.values) o) ≡ o
    by_page None e = refl
    by_page (Some page) e =
        let it = filter-at (λ (page : Page). ⊤) (is_almanac_of sv) pages (any-page pages)
        (length (filter (is_almanac_of sv) pages) - 1) page e in
        ap (λ (p : Page). Some p) (an-almanac page (and_parts _ _ it.1).0)

shown-all : (pages : List Page) (a n : ℕ)
    → map (option_map (page_with almanac)) (map (values_of pages) (range_with_len a n))
    ≡ map (last_almanac pages) (range_with_len a n)
shown-all pages a zero = refl
shown-all pages a (suc n) =
    ap₂ (λ (o : Option Page) (os : List (Option Page)). o ∷ os) (shown-again pages a)
    (shown-all pages (a + 1) n)

pub values-are : (pages : List Page) → almanac_values (last_almanacs pages) ≡ almanacs_of pages
unfolding almanac_values last_almanacs
values-are pages =
    ap (λ (os : List (Option Page)). option_and_then values_for_one_toa (all_there os))
    (shown-all pages 1 32)
