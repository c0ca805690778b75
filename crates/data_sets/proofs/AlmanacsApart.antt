-- Almanacs that make sets of the same values are the same.
use Rattle.std.proofs.Common.{◌≡◌, List, [], ◌∷◌, ◌++◌, length}
use Rattle.std.proofs.Common.{refl, ap, sym, ◌∙◌}
use Rattle.std.specs.Prelude.{Bool, true, false, ℤ, pos, Option, Some, None}
use Rattle.std.specs.Prelude.{flat_map, get_or, take}
use Rattle.std.specs.List.{list_all, AllByRecursion}
use Rattle.std.specs.Cmp.{signed_Decides}
use Rattle.std.proofs.Math.Nat.{suc_inj}
use Rattle.std.proofs.Math.Path.{ap₂}
use Rattle.std.proofs.lemmas.Bool.{and_parts, and_from}
use Rattle.std.proofs.lemmas.List.{take_at, append_cancel_left}
use Rattle.data_sets.specs.Standing.{almanac_values, IsWhole}
use Rattle.data_sets.proofs.SetsOfAlmanacs.{is_for, values_in, agreeing, differing}

all-found : (almanacs : List (Option (List ℤ))) (values : List ℤ)
    → almanac_values almanacs ≡ Some values
    → (toa : ℤ) × (list_all (is_for toa) almanacs ≡ true)
    × (values ≡ flat_map values_in almanacs)
unfolding almanac_values
all-found [] values e = cc
all-found (None ∷ rest) values e = cc
all-found (Some first ∷ rest) values e =
    by_rest (list_all (is_for (get_or first 3 (pos 0))) rest) refl
  where
    toa : ℤ
    toa = get_or first 3 (pos 0)

    by_rest : (b : Bool) → list_all (is_for toa) rest ≡ b
        → (toa : ℤ) × (list_all (is_for toa) (Some first ∷ rest) ≡ true)
        × (values ≡ flat_map values_in (Some first ∷ rest))
    by_rest true all = (
      toa,
      and_from _ _ ((signed_Decides toa toa).1 refl) all,
      let f = agreeing first rest all in cc,
    )
    by_rest false all = let f = differing first rest all in cc

told-apart : (xs ys : List (Option (List ℤ))) (t u : ℤ) → list_all (is_for t) xs ≡ true
    → list_all (is_for u) ys ≡ true → AllByRecursion IsWhole xs → AllByRecursion IsWhole ys
    → length xs ≡ length ys → flat_map values_in xs ≡ flat_map values_in ys → xs ≡ ys
told-apart [] [] t u a b v w long e = refl
told-apart [] (y ∷ ys) t u a b v w long e = cc
told-apart (x ∷ xs) [] t u a b v w long e = cc
told-apart (None ∷ xs) (y ∷ ys) t u a b v w long e = cc
told-apart (Some x ∷ xs) (None ∷ ys) t u a b v w long e = cc
told-apart (Some x ∷ xs) (Some y ∷ ys) t u a b v w long e =
    let first : x ≡ y = sym (take_at x (flat_map values_in xs) 13 v.0) ∙ ap (take 13) e
    ∙ take_at y (flat_map values_in ys) 13 w.0 in
    let others : flat_map values_in xs ≡ flat_map values_in ys =
    append_cancel_left x _ _ (e ∙ ap (λ l. l ++ flat_map values_in ys) (sym first)) in
    ap₂ (λ (z : Option (List ℤ)) (zs : List (Option (List ℤ))). z ∷ zs)
    (ap (λ (l : List ℤ). Some l) first)
    (told-apart xs ys t u (and_parts _ _ a).1 (and_parts _ _ b).1 v.1 w.1 (suc_inj long) others)

pub same-almanacs : (xs ys : List (Option (List ℤ))) (values : List ℤ)
    → almanac_values xs ≡ Some values → almanac_values ys ≡ Some values
    → AllByRecursion IsWhole xs → AllByRecursion IsWhole ys → length xs ≡ length ys → xs ≡ ys
same-almanacs xs ys values e f v w long =
    let x = all-found xs values e in
    let y = all-found ys values f in
    told-apart xs ys x.0 y.0 x.1 y.1 v w long (sym x.2 ∙ y.2)
