-- The values of pages are numbers of 32 bits and a sign at most.
use Rattle.std.proofs.Common.{◌≡◌, ℕ, zero, suc, ◌^◌, ◌<◌, ◌≤◌, List, [], ◌∷◌, length, map}
use Rattle.std.proofs.Common.{refl, arith}
use Rattle.std.specs.Prelude.{Bool, true, false, ℤ, pos, Some, slice_index, get_or}
use Rattle.std.specs.Prelude.{unsigned_abs, nat_le, ◌==◌, ◌&&◌, ◌-ℤ◌}
use Rattle.std.specs.Prelude.{if◌then◌else◌}
use Rattle.std.specs.List.{AllByRecursion, list_all}
use Rattle.std.specs.Int.Digits.{number_from_digits, AllBelowBase}
use Rattle.std.proofs.lemmas.Int.Digits.{number_lt}
use Rattle.std.proofs.lemmas.Int.{ints}
use Rattle.std.proofs.lemmas.Nat.Bits.{bit_at-lt}
use Rattle.std.proofs.lemmas.Bool.{and_parts, leb-true}
use Rattle.std.proofs.Math.Pow.{pow_mono}
use Rattle.definitions.specs.Frames.{Subframe}
use Rattle.definitions.specs.Fields.{Field, all_places, bit_at_place, value_of}
use Rattle.definitions.specs.Pages.{Kind, clock, eph2, eph3, almanac, utc, health, message, Page}
use Rattle.definitions.specs.Pages.{page_of, fields_of}
use Rattle.definitions.specs.Events.{pages_among}
use Rattle.definitions.proofs.AlmanacLemmas.{length-map}
use Rattle.definitions.proofs.LengthLemmas.{Small}
use Rattle.definitions.proofs.PageLemmas.{page_as, page_of-has, pages_among-have}

abbrev AreSmall : Page → Type 0
AreSmall page = AllByRecursion (λ v. Small v) page.values

bits-below : (s : Subframe) (places : List ℕ) → AllBelowBase 2 (map (bit_at_place s) places)
bits-below s [] = tt
bits-below s (p ∷ ps) = (bit_at-lt _ _, bits-below s ps)

difference : (a p : ℕ) (b : Bool) → a < p → p ≤ 2 ^ 32
    → unsigned_abs (pos a -ℤ (if b then pos p else pos 0)) ≤ 2 ^ 32
difference a p true h k = omega (arith, ints, h, k)
difference a p false h k = omega (arith, ints, h, k)

value-small : (s : Subframe) (f : Field) → nat_le (length (all_places f)) 32 ≡ true
    → Small (value_of s f)
value-small s f narrow =
    let ds : List ℕ = map (bit_at_place s) (all_places f) in
    let below : number_from_digits 2 ds < 2 ^ length ds =
    number_lt 2 ds (bits-below s (all_places f)) in
    let long : length ds ≤ 32 =
    omega (
      arith,
      length-map (bit_at_place s) (all_places f),
      leb-true (length (all_places f)) 32 narrow,
    ) in
    let most : 2 ^ length ds ≤ 2 ^ 32 = pow_mono long in
    difference (number_from_digits 2 ds) (2 ^ length ds)
    (f.is_signed && (slice_index ds 0 == 1)) below most

abbrev are_narrow : List Field → Bool
are_narrow fields = list_all (λ (f : Field). nat_le (length (all_places f)) 32) fields

values-small : (s : Subframe) (fields : List Field) → are_narrow fields ≡ true
    → AllByRecursion (λ v. Small v) (map (value_of s) fields)
values-small s [] e = tt
values-small s (f ∷ fs) e = let both =
    and_parts (nat_le (length (all_places f)) 32) (are_narrow fs) e in
    (value-small s f both.0, values-small s fs both.1)

kinds-narrow : (kind : Kind) → are_narrow (fields_of kind) ≡ true
kinds-narrow clock = refl
kinds-narrow eph2 = refl
kinds-narrow eph3 = refl
kinds-narrow almanac = refl
kinds-narrow utc = refl
kinds-narrow health = refl
kinds-narrow message = refl

made-small : (s : Subframe) (k : Kind) → AreSmall (page_as s k)
made-small s k = values-small s (fields_of k) (kinds-narrow k)

pub page-small : (s : Subframe) (page : Page) → page_of s ≡ Some page → AreSmall page
page-small = page_of-has AreSmall made-small

pub pages_among-small : (bits : List Bool) → AllByRecursion AreSmall (pages_among bits)
pages_among-small = pages_among-have AreSmall made-small

pub get-small : (values : List ℤ) (k : ℕ) → AllByRecursion (λ v. Small v) values
    → Small (get_or values k (pos 0))
get-small [] k all = omega arith
get-small (v ∷ vs) zero all = all.0
get-small (v ∷ vs) (suc k) all = get-small vs k all.1
