-- The texts of pages and of sets are short.
use Rattle.std.proofs.Common.{◌≡◌, ℕ, suc, ◌+◌, ◌-◌, ◌*◌, ◌<◌, ◌≤◌, List, [], ◌∷◌, ◌++◌, length}
use Rattle.std.proofs.Common.{map, refl, sym, ap, ◌∙◌, arith, length-append}
use Rattle.std.specs.Prelude.{Bool, true, ℤ, Some, slice_get, nat_le, codes}
use Rattle.std.specs.List.{AllByRecursion}
use Rattle.std.specs.Fmt.{decimal, signed_decimal, digits}
use Rattle.std.proofs.lemmas.Bool.{leb-true}
use Rattle.definitions.specs.Sums.{natural}
use Rattle.definitions.specs.Frames.{subframe_at}
use Rattle.definitions.specs.Fields.{Field, clock_fields, eph2_fields, eph3_fields}
use Rattle.definitions.specs.Pages.{Kind, clock, eph2, eph3, almanac, utc, health, message, Page}
use Rattle.definitions.specs.Pages.{fields_of}
use Rattle.definitions.specs.DataSets.{Report, ephemeris, single, AlmanacSet, last_page, is_of}
use Rattle.definitions.specs.DataSets.{health_of, last_almanac}
use Rattle.definitions.specs.Events.{pages_among}
use Rattle.definitions.specs.Texts.{words_text, hex_of_bytes, field_text, field_texts, page_text}
use Rattle.definitions.specs.Texts.{report_text, almanacs_text}
use Rattle.definitions.specs.EventLaws.{IsReport, IsAlmanacSet}
use Rattle.definitions.proofs.AlmanacLemmas.{page_of-whole, length-map, filter-at, within}
use Rattle.definitions.proofs.LengthLemmas.{decimal-length, signed-length, Small, small-length}
use Rattle.definitions.proofs.LengthLemmas.{size, spaced-size, size-none, size-word, size-written}
use Rattle.definitions.proofs.LengthLemmas.{size-map, length-hex}
use Rattle.definitions.proofs.SmallLemmas.{page-small, pages_among-small, get-small}

-- a text of words of such sizes
pub spaced-short : (n m : ℕ) (ws : List (List ℕ)) → size ws ≤ n → n ≤ m → length (words_text ws) ≤ m
spaced-short n m ws h k = omega (arith, spaced-size ws, h, k)

pub number : (m n : ℕ) (ws : List (List ℕ)) → size ws ≤ m → size (decimal n ∷ ws) ≤ 65 + m
number m n ws rest = size-word 64 m (decimal n) ws (decimal-length n) rest

pub integer : (m : ℕ) (z : ℤ) (ws : List (List ℕ)) → size ws ≤ m
    → size (signed_decimal z ∷ ws) ≤ 66 + m
integer m z ws rest = size-word 65 m (signed_decimal z) ws (signed-length z) rest

-- ---- fields of pages
field-short : (f : Field) (v : ℤ) → Small v
    → length (field_text f v) ≤ length f.name + 13 + length (signed_decimal f.exponent)
field-short f v small =
    let a =
    length-append (f.name ++ codes "=" ++ signed_decimal v ++ codes ":")
    (signed_decimal f.exponent) in
    let b = length-append (f.name ++ codes "=" ++ signed_decimal v) (codes ":") in
    let c = length-append (f.name ++ codes "=") (signed_decimal v) in
    let d = length-append f.name (codes "=") in
    let e = small-length v small in
    omega (arith, a, b, c, d, e)

abbrev table_size : List Field → ℕ
table_size [] = 0
table_size (f ∷ fs) = suc (length f.name + 13 + length (signed_decimal f.exponent)) + table_size fs

fields-size : (fields : List Field) (values : List ℤ) → AllByRecursion (λ v. Small v) values
    → size (field_texts fields values) ≤ table_size fields
unfolding size
fields-size [] values all = omega arith
fields-size (f ∷ fs) [] all = omega arith
fields-size (f ∷ fs) (v ∷ vs) all =
    let rest = fields-size fs vs all.1 in let first = field-short f v all.0 in
    omega (arith, rest, first)

tabled : (fields : List Field) (values : List ℤ) (m : ℕ) → AllByRecursion (λ v. Small v) values
    → nat_le (table_size fields) m ≡ true → size (field_texts fields values) ≤ m
tabled fields values m all e =
    omega (arith, fields-size fields values all, leb-true (table_size fields) m e)

fields-short : (name : List ℕ) (slot : ℕ) (fields : List Field) (values : List ℤ)
    → nat_le (length name) 10 ≡ true → AllByRecursion (λ v. Small v) values
    → nat_le (table_size fields) 700 ≡ true
    → length (words_text (name ∷ decimal slot ∷ field_texts fields values)) ≤ 880
fields-short name slot fields values short small e =
    spaced-short (11 + (65 + 700)) 880 (name ∷ decimal slot ∷ field_texts fields values)
    (size-written (65 + 700) name _ short
    (number 700 slot _ (tabled fields values 700 small e))) (omega arith)

kind-short : (slot : ℕ) (kind : Kind) (values : List ℤ) → length values ≡ length (fields_of kind)
    → AllByRecursion (λ v. Small v) values
    → length (page_text slot (record { kind = kind; values = values })) ≤ 880
unfolding page_text digits
kind-short slot clock values whole small = omega arith
kind-short slot eph2 values whole small = omega arith
kind-short slot eph3 values whole small = omega arith
kind-short slot almanac values whole small =
    fields-short (codes "alm") slot (fields_of almanac) values refl small refl
kind-short slot utc values whole small =
    fields-short (codes "utc") slot (fields_of utc) values refl small refl
kind-short slot health values whole small =
    fields-short (codes "hlt") slot (fields_of health) values refl small refl
kind-short slot message values whole small =
    let hex = length-hex (map natural values) in
    let long = length-map natural values in
    let short : length (hex_of_bytes (map natural values)) ≤ 44 = omega (arith, hex, long, whole) in
    spaced-short (11 + (65 + (45 + 0))) 880
    (codes "msg" ∷ decimal slot ∷ hex_of_bytes (map natural values) ∷ [])
    (size-written (65 + (45 + 0)) (codes "msg") _ refl
    (number (45 + 0) slot
    _ (size-word 44 0 (hex_of_bytes (map natural values)) [] short size-none)))
    (omega arith)

all-append : (xs ys : List ℤ) → AllByRecursion (λ v. Small v) xs → AllByRecursion (λ v. Small v) ys
    → AllByRecursion (λ v. Small v) (xs ++ ys)
all-append [] ys hx hy = hy
all-append (x ∷ xs) ys hx hy = (hx.0, all-append xs ys hx.1 hy)

last-small : (bits : List Bool) (kind : Kind) (page : Page)
    → last_page (is_of kind) (pages_among bits) ≡ Some page
    → AllByRecursion (λ v. Small v) page.values
last-small bits kind page e =
    (filter-at (λ (p : Page). AllByRecursion (λ v. Small v) p.values) (is_of kind)
    (pages_among bits) (pages_among-small bits) _ page e).0

pub report-short : (slot : ℕ) (bits : List Bool) (r : Report) → IsReport bits r
    → length (report_text slot r) ≤ 880
unfolding digits
report-short slot bits (ephemeris values) ((c, e2, e3, f, g, h, one, is), with) =
    let small : AllByRecursion (λ v. Small v) values =
    rw is (all-append (c.values ++ e2.values) e3.values
    (all-append c.values e2.values (last-small bits clock c f.is_last)
    (last-small bits eph2 e2 g.is_last)) (last-small bits eph3 e3 h.is_last)) in
    fields-short (codes "eph") slot (clock_fields ++ eph2_fields ++ eph3_fields) values refl small
    refl
report-short slot bits (single page) (n, ends, it) =
    kind-short slot page.kind page.values (page_of-whole (subframe_at bits n) page it.is_read)
    (page-small (subframe_at bits n) page it.is_read)

-- ---- a set of almanacs
almanac-small : (bits : List Bool) (sv : ℕ) (page : Page)
    → last_almanac (pages_among bits) sv ≡ Some page → AllByRecursion (λ v. Small v) page.values
almanac-small bits sv page e =
    (filter-at (λ (p : Page). AllByRecursion (λ v. Small v) p.values) _ (pages_among bits)
    (pages_among-small bits) _ page e).0

all-from : (P : ℤ → Type 0) (xs : List ℤ) → ((k : ℕ) (x : ℤ) → slice_get xs k ≡ Some x → P x)
    → AllByRecursion P xs
all-from P [] each = tt
all-from P (x ∷ xs) each = (each 0 x refl, all-from P xs (λ k y there. each (suc k) y there))

pub set-short : (slot : ℕ) (bits : List Bool) (set : AlmanacSet)
    → IsAlmanacSet bits set → length (almanacs_text slot set) ≤ 880
set-short slot bits set is =
    let one = is.each 1 (omega arith) (omega arith) in
    let toa : Small set.toa =
    rw one.3 at (get-small (one.0).values 3 (almanac-small bits 1 one.0 one.1)) in
    let healths : AllByRecursion (λ h. length (signed_decimal h) ≤ 11) set.health =
    all-from (λ h. length (signed_decimal h) ≤ 11) set.health
    (λ k h there. small-length h (healthy k h there)) in
    let list : size (map signed_decimal set.health) ≤ length set.health * suc 11 =
    size-map signed_decimal 11 set.health healths in
    let count : length set.health ≡ 32 = is.health_of_all in
    let first : length (codes "toa=" ++ signed_decimal set.toa ++ codes ":12") ≤ 18 =
    toa-text set.toa toa in
    spaced-short (11 + (65 + (19 + 384))) 880
    (codes "als" ∷ decimal slot ∷ (codes "toa=" ++ signed_decimal set.toa ++ codes ":12") ∷ map
    signed_decimal set.health)
    (size-written (65 + (19 + 384)) (codes "als") _ refl
    (number (19 + 384) slot
    _ (size-word 18 384 (codes "toa=" ++ signed_decimal set.toa ++ codes ":12") _ first
    (omega (arith, list, count))))) (omega arith)
  where
    toa-text : (z : ℤ) → Small z → length (codes "toa=" ++ signed_decimal z ++ codes ":12") ≤ 18
    toa-text z small =
        let a = length-append (codes "toa=" ++ signed_decimal z) (codes ":12") in
        let b = length-append (codes "toa=") (signed_decimal z) in
        let c = small-length z small in
        omega (arith, a, b, c)

    healthy : (k : ℕ) (h : ℤ) → slice_get set.health k ≡ Some h → Small h
    healthy k h there =
        let below : k < 32 = omega (arith, is.health_of_all, within set.health k h there) in
        let page = is.each (k + 1) (omega arith) (omega arith) in
        let place : k + 1 - 1 ≡ k = omega arith in
        let same : Some h ≡ Some (health_of page.0) =
        sym there ∙ ap (slice_get set.health) (sym place) ∙ page.4 in
        let it : h ≡ health_of page.0 = cc in
        rw it (get-small (page.0).values 6 (almanac-small bits (k + 1) page.0 page.1))
