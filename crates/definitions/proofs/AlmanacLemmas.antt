-- What a set of almanacs is made of.
use Rattle.std.proofs.Common.{◌≡◌, ℕ, zero, suc, ◌+◌, ◌-◌, ◌*◌, ◌<◌, List, [], ◌∷◌, ◌++◌, length}
use Rattle.std.proofs.Common.{map, refl, sym, ap, ◌∙◌, arith}
use Rattle.std.specs.Prelude.{Bool, true, false, ℤ, pos, Option, Some, None, slice_get, get_or}
use Rattle.std.specs.Prelude.{filter, flat_map, cond, option_and_then}
use Rattle.std.specs.Prelude.{nat_eq}
use Rattle.std.specs.List.{range_with_len, list_all, AllByRecursion}
use Rattle.std.specs.Ordering.{int_eq}
use Rattle.std.specs.Cmp.{signed_Decides}
use Rattle.std.proofs.lemmas.Bool.{and_parts}
use Rattle.definitions.specs.Frames.{Subframe}
use Rattle.definitions.specs.Fields.{value_of}
use Rattle.definitions.specs.Pages.{Kind, clock, eph2, eph3, almanac, utc, health, message, Page}
use Rattle.definitions.specs.Pages.{page_of, fields_of}
use Rattle.definitions.specs.DataSets.{kind_number, is_almanac_of, last_almanac, with_first}
use Rattle.definitions.specs.DataSets.{last_page}
use Rattle.definitions.specs.DataSets.{all_there, toa_of, have_one_toa, values_for_one_toa}
use Rattle.definitions.specs.DataSets.{almanacs_of, almanac_set}
use Rattle.definitions.specs.Events.{pages_among}
use Rattle.definitions.specs.SlotLaws.{IsPage}
use Rattle.definitions.specs.EventLaws.{IsAlmanacSet}
use Rattle.definitions.proofs.FrameLemmas.{mapped}
use Rattle.definitions.proofs.PageLemmas.{page_as, page_of-has, pages_among-have, all-from}
use Rattle.definitions.proofs.PageLemmas.{pages-pass}

-- ---- a page has a value for each field of its kind
abbrev pub IsWhole : Page → Type 0
IsWhole page = length page.values ≡ length (fields_of page.kind)

pub length-map : {A B : Type 0} (f : A → B) (xs : List A) → length (map f xs) ≡ length xs
length-map f [] = refl
length-map f (x ∷ xs) = ap suc (length-map f xs)

values-whole : (s : Subframe) (k : Kind) → IsWhole (page_as s k)
values-whole s k = length-map (value_of s) (fields_of k)

pub page_of-whole : (s : Subframe) (page : Page) → page_of s ≡ Some page → IsWhole page
page_of-whole = page_of-has IsWhole values-whole

pub pages_among-whole : (bits : List Bool) → AllByRecursion IsWhole (pages_among bits)
pages_among-whole = pages_among-have IsWhole values-whole

-- ---- the last page that passes a test
pub filter-at : (P : Page → Type 0) (test : Page → Bool) (pages : List Page)
    → AllByRecursion P pages → (k : ℕ) (page : Page) → slice_get (filter test pages) k ≡ Some page
    → P page × (test page ≡ true)
filter-at P test [] all k page e = cc
filter-at P test (p ∷ ps) all k page e =
    by_test (test p) refl k e (λ j h. filter-at P test ps all.1 j page h)
  where
    by_test : (b : Bool) → test p ≡ b → (k : ℕ)
        → slice_get (cond b (p ∷ filter test ps) (filter test ps)) k ≡ Some page
        → ((j : ℕ) → slice_get (filter test ps) j ≡ Some page → P page × (test page ≡ true))
        → P page × (test page ≡ true)
    by_test false is k e next = next k e
    by_test true is zero e next = let it : p ≡ page = cc in (rw (sym it) all.0, rw (sym it) is)
    by_test true is (suc k) e next = next k e

-- it is one of the pages, so its words pass
pages-are : (bits : List Bool) → AllByRecursion (IsPage bits) (pages_among bits)
pages-are bits = all-from (IsPage bits) (pages_among bits) (pages-pass bits)

pub last-passes : (bits : List Bool) (test : Page → Bool) (page : Page)
    → last_page test (pages_among bits) ≡ Some page → IsPage bits page
last-passes bits test page e =
    (filter-at (IsPage bits) test (pages_among bits) (pages-are bits) _ page e).0

thirteen : (kind : Kind) → nat_eq 3 (kind_number kind) ≡ true → length (fields_of kind) ≡ 13
thirteen clock e = cc
thirteen eph2 e = cc
thirteen eph3 e = cc
thirteen almanac e = refl
thirteen utc e = cc
thirteen health e = cc
thirteen message e = cc

almanac-values : (pages : List Page) (sv : ℕ) (page : Page) → AllByRecursion IsWhole pages
    → last_almanac pages sv ≡ Some page → length page.values ≡ 13
almanac-values pages sv page all e =
    let it = filter-at IsWhole (is_almanac_of sv) pages all
    (length (filter (is_almanac_of sv) pages) - 1) page e in
    it.0 ∙ thirteen page.kind (and_parts _ _ it.1).0

-- ---- all there
there-is : (os : List (Option Page)) (ps : List Page) → all_there os ≡ Some ps
    → os ≡ map (λ p. Some p) ps
there-is [] ps e = let f : [] ≡ ps = cc in rw (sym f) refl
there-is (o ∷ os) ps e = by_first o (all_there os) refl e (λ qs h. there-is os qs h)
  where
    by_first : (o : Option Page) (rest : Option (List Page)) → all_there os ≡ rest
        → with_first o rest ≡ Some ps
        → ((qs : List Page) → all_there os ≡ Some qs → os ≡ map (λ p. Some p) qs)
        → o ∷ os ≡ map (λ p. Some p) ps
    by_first None rest r e next = cc
    by_first (Some p) None r e next = cc
    by_first (Some p) (Some qs) r e next = let f : p ∷ qs ≡ ps = cc in
        rw (sym f) (ap (λ l. Some p ∷ l) (next qs r))

unmapped : (ps : List Page) (k : ℕ) (o : Option Page) → slice_get (map (λ p. Some p) ps) k ≡ Some o
    → (p : Page) × (o ≡ Some p) × (slice_get ps k ≡ Some p)
unmapped [] k o e = cc
unmapped (p ∷ ps) zero o e = (p, cc, refl)
unmapped (p ∷ ps) (suc k) o e = unmapped ps k o e

-- ---- values one after another
get_or-first : (xs ys : List ℤ) (n : ℕ) (d : ℤ) → n < length xs
    → get_or (xs ++ ys) n d ≡ get_or xs n d
get_or-first [] ys n d h = absurd (omega arith)
get_or-first (x ∷ xs) ys zero d h = refl
get_or-first (x ∷ xs) ys (suc n) d h = get_or-first xs ys n d (omega arith)

get_or-behind : (xs ys : List ℤ) (n : ℕ) (d : ℤ)
    → get_or (xs ++ ys) (length xs + n) d ≡ get_or ys n d
get_or-behind [] ys n d = let e : 0 + n ≡ n = omega arith in rw e refl
get_or-behind (x ∷ xs) ys n d = let e : suc (length xs) + n ≡ suc (length xs + n) = omega arith in
    rw e (get_or-behind xs ys n d)

abbrev all_values : List Page → List ℤ
all_values ps = flat_map (λ (page : Page). page.values) ps

in-row : (ps : List Page) → AllByRecursion (λ (p : Page). length p.values ≡ 13) ps
    → (k j : ℕ) (page : Page) → slice_get ps k ≡ Some page → j < 13
    → get_or (all_values ps) (13 * k + j) (pos 0) ≡ get_or page.values j (pos 0)
in-row [] all k j page e h = cc
in-row (p ∷ ps) all zero j page e h =
    let it : p ≡ page = cc in
    let n : 13 * 0 + j ≡ j = omega arith in
    rw n (get_or-first p.values (all_values ps) j (pos 0) (omega (arith, all.0))
    ∙ ap (λ (q : Page). get_or q.values j (pos 0)) it)
in-row (p ∷ ps) all (suc k) j page e h =
    let n : 13 * suc k + j ≡ length p.values + (13 * k + j) = omega (arith, all.0) in
    rw n (get_or-behind p.values (all_values ps) (13 * k + j) (pos 0)
    ∙ in-row ps all.1 k j page e h)

-- ---- one time of applicability
one-toa : (first : Page) (ps : List Page)
    → list_all (λ (other : Page). int_eq (toa_of first) (toa_of other)) ps ≡ true
    → (k : ℕ) (page : Page) → slice_get ps k ≡ Some page → toa_of page ≡ toa_of first
one-toa first [] e k page there = cc
one-toa first (p ∷ ps) e zero page there =
    let it : p ≡ page = cc in
    ap toa_of (sym it) ∙ sym ((signed_Decides (toa_of first) (toa_of p)).0 (and_parts _ _ e).0)
one-toa first (p ∷ ps) e (suc k) page there = one-toa first ps (and_parts _ _ e).1 k page there

have-one : (ps : List Page) → have_one_toa ps ≡ true
    → AllByRecursion (λ (p : Page). length p.values ≡ 13) ps → (k : ℕ) (page : Page)
    → slice_get ps k ≡ Some page
    → toa_of page ≡ get_or (all_values ps) 3 (pos 0)
have-one [] e all k page there = cc
have-one (p ∷ ps) e all zero page there = let it : p ≡ page = cc in
    ap toa_of (sym it) ∙ sym (in-row (p ∷ ps) all 0 3 p refl (omega arith))
have-one (p ∷ ps) e all (suc k) page there = one-toa p ps e k page there
    ∙ sym (in-row (p ∷ ps) all 0 3 p refl (omega arith))

one-values : (ps : List Page) (values : List ℤ) → values_for_one_toa ps ≡ Some values
    → (have_one_toa ps ≡ true) × (values ≡ all_values ps)
one-values ps values e = by_test (have_one_toa ps) e
  where
    by_test : (b : Bool) → cond b (Some (all_values ps)) None ≡ Some values
        → (b ≡ true) × (values ≡ all_values ps)
    by_test true e = (refl, cc)
    by_test false e = cc

-- the pages of a set: one for each satellite
record ArePages (pages ps : List Page) : Type 0 where
  count : length ps ≡ 32
  each : (k : ℕ) (page : Page) → slice_get ps k ≡ Some page
      → (k < 32) × (last_almanac pages (1 + k) ≡ Some page)
  some : (k : ℕ) → k < 32 → (page : Page) × (slice_get ps k ≡ Some page)

pub within : {A : Type 0} (xs : List A) (k : ℕ) (x : A) → slice_get xs k ≡ Some x → k < length xs
within [] k x e = cc
within (y ∷ ys) zero x e = omega arith
within (y ∷ ys) (suc k) x e = omega (arith, within ys k x e)

pub reached : {A : Type 0} (xs : List A) (k : ℕ) → k < length xs
    → (x : A) × (slice_get xs k ≡ Some x)
reached [] k h = absurd (omega arith)
reached (y ∷ ys) zero h = (y, refl)
reached (y ∷ ys) (suc k) h = reached ys k (omega arith)

at-mapped : (ps : List Page) (k : ℕ) (page : Page) → slice_get ps k ≡ Some page
    → slice_get (map (λ p. Some p) ps) k ≡ Some (Some page)
at-mapped [] k page e = cc
at-mapped (p ∷ ps) zero page e = let it : p ≡ page = cc in rw it refl
at-mapped (p ∷ ps) (suc k) page e = at-mapped ps k page e

are-pages : (pages ps : List Page) → all_there (map (last_almanac pages) (range_with_len 1 32))
    ≡ Some ps → ArePages pages ps
are-pages pages ps e =
    let whole : map (last_almanac pages) (range_with_len 1 32) ≡ map (λ p. Some p) ps =
    there-is (map (last_almanac pages) (range_with_len 1 32)) ps e in
    let long : length ps ≡ 32 = sym (length-map (λ p. Some p) ps) ∙ ap length (sym whole)
    ∙ length-map (last_almanac pages) (range_with_len 1 32) in
    record {
      count = long;
      each = λ k page there. let below : k < 32 = omega (arith, long, within ps k page there) in (
        below,
        found k page below
            (sym (mapped (last_almanac pages) 1 32 k below) ∙ ap (λ l. slice_get l k) whole
            ∙ at-mapped ps k page there),
      );
      some = λ k h. reached ps k (omega (arith, long));
    }
  where
    found : (k : ℕ) (page : Page) → k < 32 → Some (last_almanac pages (1 + k)) ≡ Some (Some page)
        → last_almanac pages (1 + k) ≡ Some page
    found k page h e = cc

-- a set that is made of the last almanacs
pub set-agrees : (bits : List Bool) (values : List ℤ)
    → almanacs_of (pages_among bits) ≡ Some values → IsAlmanacSet bits (almanac_set values)
set-agrees bits values e =
    by_there (all_there (map (last_almanac pages) (range_with_len 1 32))) refl e
  where
    pages : List Page
    pages = pages_among bits

    all : AllByRecursion IsWhole pages
    all = pages_among-whole bits

    of_pages : (ps : List Page) → ArePages pages ps → have_one_toa ps ≡ true
        → values ≡ all_values ps → IsAlmanacSet bits (almanac_set values)
    of_pages ps are one is =
        let longs : AllByRecursion (λ (p : Page). length p.values ≡ 13) ps =
        all-from (λ (p : Page). length p.values ≡ 13) ps
        (λ k page there. almanac-values pages (1 + k) page all (are.each k page there).1) in
        record {
          health_of_all = refl;
          each = λ sv low high.
              let k : ℕ = sv - 1 in
              let same : 1 + k ≡ sv = omega arith in
              let below : k < 32 = omega arith in
              let page = are.some k below in
              let health = mapped (λ j. get_or values (13 * j + 6) (pos 0)) 0 32 k below in
              let from_zero : 0 + k ≡ k = omega arith in
              let last = ap (last_almanac pages) (sym same) ∙ (are.each k page.0 page.1).1 in (
                page.0,
                last,
                last-passes bits (is_almanac_of sv) page.0 last,
                rw is (have-one ps one longs k page.0 page.1),
                health ∙ ap (λ z. Some z)
                    (rw (is, from_zero) (in-row ps longs k 6 page.0 page.1 (omega arith))),
              );
        }

    by_there : (o : Option (List Page)) → all_there (map (last_almanac pages) (range_with_len 1 32))
        ≡ o → option_and_then values_for_one_toa o ≡ Some values
        → IsAlmanacSet bits (almanac_set values)
    by_there None there h = cc
    by_there (Some ps) there h = let parts = one-values ps values h in
        of_pages ps (are-pages pages ps there) parts.0 parts.1
