-- The first of the almanacs, with one more.
use Rattle.std.proofs.Common.{◌≡◌, ℕ, ◌+◌, ◌<◌, List, [], ◌∷◌, ◌++◌, length, map}
use Rattle.std.proofs.Common.{refl, ap, ◌∙◌}
use Rattle.std.proofs.Common.{slice_set}
use Rattle.std.specs.Prelude.{true, ℤ, pos, Option, Some, None}
use Rattle.std.specs.Prelude.{get_or, take}
use Rattle.std.specs.List.{list_all, AllByRecursion}
use Rattle.std.specs.Cmp.{signed_Decides}
use Rattle.std.proofs.lemmas.List.{map-append}
use Rattle.std.proofs.lemmas.List.{take_more, take_more_set}
use Rattle.std.proofs.lemmas.List.Folds.{list_all-append}
use Rattle.data_sets.specs.Standing.{IsWhole}
use Rattle.data_sets.proofs.SetsOfAlmanacs.{is_for, health_in}

abbrev Almanac : Type 0
Almanac = Option (List ℤ)

one-more : (almanacs : List Almanac) (k : ℕ) (values : List ℤ) → k < length almanacs
    → get_or almanacs k None ≡ Some values
    → take (k + 1) almanacs ≡ take k almanacs ++ Some values ∷ []
one-more almanacs k values h e =
    take_more almanacs k None h ∙ ap (λ (a : Almanac). take k almanacs ++ a ∷ []) e

module _ (almanacs : List Almanac) (k : ℕ) (values : List ℤ) (within : k < length almanacs)
    (is : get_or almanacs k None ≡ Some values) where
  pub for_one-more : (toa : ℤ) → list_all (is_for toa) (take k almanacs) ≡ true
      → toa ≡ get_or values 3 (pos 0) → list_all (is_for toa) (take (k + 1) almanacs) ≡ true
  for_one-more toa before e =
      let it : is_for toa (Some values) ≡ true =
      (signed_Decides toa (get_or values 3 (pos 0))).1 e in
      rw (
        one-more almanacs k values within is,
        list_all-append (is_for toa) (take k almanacs) (Some values ∷ []),
        before,
        it,
      ) refl

  pub whole-more : AllByRecursion IsWhole (take k almanacs) → length values ≡ 13
      → AllByRecursion IsWhole (take (k + 1) almanacs)
  whole-more before e =
      rw (one-more almanacs k values within is) (whole-append (take k almanacs) before)
    where
      whole-append : (first : List Almanac) → AllByRecursion IsWhole first
          → AllByRecursion IsWhole (first ++ Some values ∷ [])
      whole-append [] w = (e, tt)
      whole-append (a ∷ rest) w = (w.0, whole-append rest w.1)

  pub health-more : (health : List ℤ) → k < length health
      → take k health ≡ map health_in (take k almanacs)
      → take (k + 1) (slice_set health k (get_or values 6 (pos 0)))
      ≡ map health_in (take (k + 1) almanacs)
  health-more health h before =
      rw (
        one-more almanacs k values within is,
        map-append health_in (take k almanacs) (Some values ∷ []),
        take_more_set health k (get_or values 6 (pos 0)) h,
        before,
      ) refl
