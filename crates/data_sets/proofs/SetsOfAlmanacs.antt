-- What a set of almanacs is made of, by the values of the last ones.
use Rattle.std.proofs.Common.{◌≡◌, ◌≢◌, ℕ, zero, suc, ◌+◌, ◌*◌, ◌<◌, List, [], ◌∷◌, ◌++◌, length}
use Rattle.std.proofs.Common.{map}
use Rattle.std.proofs.Common.{refl, ap, sym, ◌∙◌, arith, append_assoc, length-append}
use Rattle.std.specs.Prelude.{Bool, true, false, ◌&&◌, ℤ, pos, Option, Some, None}
use Rattle.std.specs.Prelude.{option_map, option_and_then, flat_map, get_or}
use Rattle.std.specs.List.{list_all, AllByRecursion, range_with_len}
use Rattle.std.specs.Option.{option_map_or}
use Rattle.std.specs.Ordering.{int_eq}
use Rattle.std.specs.Cmp.{signed_Decides}
use Rattle.std.proofs.Math.Bool.{and-false}
use Rattle.std.proofs.Math.ListN.{get_or-append}
use Rattle.std.proofs.Math.Path.{ap₂}
use Rattle.std.proofs.lemmas.Bool.{and_parts}
use Rattle.std.proofs.lemmas.List.{get_or-append-add}
use Rattle.definitions.specs.Pages.{almanac, Page}
use Rattle.definitions.specs.DataSets as sets
use Rattle.definitions.specs.DataSets.{all_there, toa_of, values_for_one_toa, almanac_set}
use Rattle.data_sets.specs.Standing.{page_with, almanac_values, IsWhole}

-- the almanac is there, with this time of applicability
abbrev pub is_for : ℤ → Option (List ℤ) → Bool
is_for toa None = false
is_for toa (Some values) = int_eq toa (get_or values 3 (pos 0))

-- its health
abbrev pub health_in : Option (List ℤ) → ℤ
health_in None = pos 0
health_in (Some values) = get_or values 6 (pos 0)

-- its values
abbrev pub values_in : Option (List ℤ) → List ℤ
values_in None = []
values_in (Some values) = values

abbrev shown : List (Option (List ℤ)) → List (Option Page)
shown almanacs = map (option_map (page_with almanac)) almanacs

abbrev pages_in : List (Option (List ℤ)) → List Page
pages_in almanacs = map (λ (a : Option (List ℤ)). page_with almanac (values_in a)) almanacs

-- ---- all are there for one time

for_one : (toa : ℤ) (almanacs : List (Option (List ℤ)))
    → option_map_or (list_all (λ (page : Page). int_eq toa (toa_of page)))
    (all_there (shown almanacs)) false ≡ list_all (is_for toa) almanacs
for_one toa [] = refl
for_one toa (None ∷ rest) = refl
for_one toa (Some values ∷ rest) = by_rest (all_there (shown rest)) refl (for_one toa rest)
  where
    by_rest : (o : Option (List Page)) → all_there (shown rest) ≡ o
        → option_map_or (list_all (λ (page : Page). int_eq toa (toa_of page))) o false
        ≡ list_all (is_for toa) rest
        → option_map_or (list_all (λ (page : Page). int_eq toa (toa_of page)))
        (sets.with_first (Some (page_with almanac values)) o) false
        ≡ (int_eq toa (get_or values 3 (pos 0)) && list_all (is_for toa) rest)
    by_rest None e f = rw (sym f) (sym (and-false (int_eq toa (get_or values 3 (pos 0)))))
    by_rest (Some pages) e f = rw (sym f) refl

there : (toa : ℤ) (almanacs : List (Option (List ℤ))) → list_all (is_for toa) almanacs ≡ true
    → all_there (shown almanacs) ≡ Some (pages_in almanacs)
there toa [] e = refl
there toa (None ∷ rest) e = cc
there toa (Some values ∷ rest) e =
    ap (sets.with_first (Some (page_with almanac values))) (there toa rest (and_parts _ _ e).1)

values-pages : (almanacs : List (Option (List ℤ)))
    → flat_map (λ (page : Page). page.values) (pages_in almanacs) ≡ flat_map values_in almanacs
values-pages [] = refl
values-pages (a ∷ rest) = ap (λ l. values_in a ++ l) (values-pages rest)

-- the others are for the time of the first
pub agreeing : (first : List ℤ) (rest : List (Option (List ℤ)))
    → list_all (is_for (get_or first 3 (pos 0))) rest ≡ true
    → almanac_values (Some first ∷ rest) ≡ Some (flat_map values_in (Some first ∷ rest))
unfolding almanac_values
agreeing first rest e =
    let pages : all_there (shown rest) ≡ Some (pages_in rest) =
    there (get_or first 3 (pos 0)) rest e in
    let one : list_all (λ (page : Page). int_eq (get_or first 3 (pos 0)) (toa_of page))
    (pages_in rest) ≡ true =
    ap (λ (o : Option (List Page)). option_map_or (list_all
    (λ (page : Page). int_eq (get_or first 3 (pos 0)) (toa_of page))) o false) (sym pages)
    ∙ for_one (get_or first 3 (pos 0)) rest ∙ e in
    rw (pages, one) (ap (λ (l : List ℤ). Some (first ++ l)) (values-pages rest))

pub differing : (first : List ℤ) (rest : List (Option (List ℤ)))
    → list_all (is_for (get_or first 3 (pos 0))) rest ≡ false
    → almanac_values (Some first ∷ rest) ≡ None
unfolding almanac_values
differing first rest e = by_rest (all_there (shown rest)) refl
  where
    toa : ℤ
    toa = get_or first 3 (pos 0)

    by_rest : (o : Option (List Page)) → all_there (shown rest) ≡ o
        → option_and_then values_for_one_toa (sets.with_first (Some (page_with almanac first)) o)
        ≡ None
    by_rest None there = refl
    by_rest (Some pages) there =
        let other : list_all (λ (page : Page). int_eq toa (toa_of page)) pages ≡ false =
        ap (λ (o : Option (List Page)). option_map_or (list_all
        (λ (page : Page). int_eq toa (toa_of page))) o false) (sym there)
        ∙ for_one toa rest ∙ e in
        rw other refl

-- ---- the set that is found by them, or none

not-all : (toa : ℤ) (almanacs : List (Option (List ℤ))) (k : ℕ) → k < length almanacs
    → is_for toa (get_or almanacs k None) ≡ false → list_all (is_for toa) almanacs ≡ false
not-all toa [] k h e = absurd (omega arith)
not-all toa (a ∷ rest) zero h e = rw e refl
not-all toa (a ∷ rest) (suc k) h e =
    rw (not-all toa rest k (omega arith) e) (and-false (is_for toa a))

pub for-another : (toa : ℤ) (values : List ℤ) → toa ≢ get_or values 3 (pos 0)
    → is_for toa (Some values) ≡ false
for-another toa values other = by_test (int_eq toa (get_or values 3 (pos 0))) refl
  where
    by_test : (b : Bool) → int_eq toa (get_or values 3 (pos 0)) ≡ b → b ≡ false
    by_test true e = absurd (other ((signed_Decides toa (get_or values 3 (pos 0))).0 e))
    by_test false e = refl

pub first-missing : (almanacs : List (Option (List ℤ))) → length almanacs ≡ 32
    → get_or almanacs 0 None ≡ None → almanac_values almanacs ≡ None
unfolding almanac_values
first-missing [] long e = cc
first-missing (None ∷ rest) long e = refl
first-missing (Some values ∷ rest) long e = cc

pub one-other : (almanacs : List (Option (List ℤ))) (first : List ℤ) (toa : ℤ) (k : ℕ)
    → get_or almanacs 0 None ≡ Some first → toa ≡ get_or first 3 (pos 0) → k < length almanacs
    → is_for toa (get_or almanacs k None) ≡ false → almanac_values almanacs ≡ None
one-other [] first toa k e t h f = absurd (omega arith)
one-other (None ∷ rest) first toa k e t h f = cc
one-other (Some values ∷ rest) first toa zero e t h f =
    let it : values ≡ first = cc in
    let same : int_eq toa (get_or values 3 (pos 0)) ≡ true =
    (signed_Decides toa (get_or values 3 (pos 0))).1 (rw it t) in
    cc
one-other (Some values ∷ rest) first toa (suc k) e t h f =
    let it : values ≡ first = cc in
    rw it (differing first rest (rw (sym t) (not-all toa rest k (omega arith) f)))

-- the health of each
healths : (toa : ℤ) (n : ℕ) (before : List ℤ) (almanacs : List (Option (List ℤ)))
    → length before ≡ 13 * n → list_all (is_for toa) almanacs ≡ true
    → AllByRecursion IsWhole almanacs
    → map (λ k. get_or (before ++ flat_map values_in almanacs) (13 * k + 6) (pos 0))
    (range_with_len n (length almanacs)) ≡ map health_in almanacs
healths toa n before [] e all whole = refl
healths toa n before (None ∷ rest) e all whole = cc
healths toa n before (Some values ∷ rest) e all whole =
    let place : 13 * n + 6 ≡ length before + 6 = omega (arith, e) in
    let next : length (before ++ values) ≡ 13 * (n + 1) =
    simp length-append (omega (arith, e, whole.0)) in
    let first : get_or (before ++ (values ++ flat_map values_in rest)) (13 * n + 6) (pos 0)
    ≡ get_or values 6 (pos 0) =
    rw place (get_or-append-add before (values ++ flat_map values_in rest) 6 (pos 0)
    ∙ get_or-append values (flat_map values_in rest) (pos 0) 6 (omega (arith, whole.0))) in
    ap₂ (λ (h : ℤ) (hs : List ℤ). h ∷ hs) first
    (ap (λ (l : List ℤ). map (λ k. get_or l (13 * k + 6) (pos 0))
    (range_with_len (n + 1) (length rest))) (sym (append_assoc before values
    (flat_map values_in rest)))
    ∙ healths toa (n + 1) (before ++ values) rest next (and_parts _ _ all).1 whole.1)

pub set-found : (almanacs : List (Option (List ℤ))) (first : List ℤ) (toa : ℤ) (health : List ℤ)
    → get_or almanacs 0 None ≡ Some first → toa ≡ get_or first 3 (pos 0)
    → list_all (is_for toa) almanacs ≡ true → AllByRecursion IsWhole almanacs
    → length almanacs ≡ 32 → health ≡ map health_in almanacs
    → Some (record { toa = toa; health = health })
    ≡ option_map almanac_set (almanac_values almanacs)
set-found [] first toa health e t all whole long h = cc
set-found (None ∷ rest) first toa health e t all whole long h = cc
set-found (Some values ∷ rest) first toa health e t all whole long h =
    let it : values ≡ first = cc in
    let of_first : toa ≡ get_or values 3 (pos 0) = rw it t in
    let found : almanac_values (Some values ∷ rest)
    ≡ Some (flat_map values_in (Some values ∷ rest)) =
    agreeing values rest (rw (sym of_first) (and_parts _ _ all).1) in
    let same_toa : toa ≡ get_or (values ++ flat_map values_in rest) 3 (pos 0) = of_first
    ∙ sym (get_or-append values (flat_map values_in rest) (pos 0) 3 (omega (arith, whole.0))) in
    let same_health : health ≡ map (λ k. get_or (values ++ flat_map values_in rest) (13 * k + 6)
    (pos 0)) (range_with_len 0 32) = h
    ∙ sym (healths toa 0 [] (Some values ∷ rest) refl all whole)
    ∙ ap (λ n. map (λ k. get_or (values ++ flat_map values_in rest) (13 * k + 6) (pos 0))
    (range_with_len 0 n)) long in
    rw (found, same_toa, same_health) refl
