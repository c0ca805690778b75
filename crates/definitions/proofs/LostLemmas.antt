-- A signal that is lost, or isn't, with one more dump.
use Rattle.std.proofs.Common.{◌≡◌, ℕ, suc, ◌+◌, ◌<◌, List, [], ◌∷◌, ◌++◌, length, ◌∙◌, arith}
use Rattle.std.proofs.Common.{length-append, inl, inr}
use Rattle.std.specs.Prelude.{true, false, Some, None, ◌⊎◌}
use Rattle.definitions.specs.Correlation.{Counts}
use Rattle.definitions.specs.Lives.{lost_after, is_lost_with}
use Rattle.definitions.proofs.SumsLemmas.{least_below-none, least_below-none_is, least_below-is}
use Rattle.definitions.proofs.EndLemmas.{lost_with-append}

-- one more dump, where it wasn't lost before
pub lost-more : (ds : List Counts) (d : Counts) → lost_after ds ≡ None
    → is_lost_with (ds ++ d ∷ []) (length ds + 1) ≡ false → lost_after (ds ++ d ∷ []) ≡ None
lost-more ds d none now =
    let n : length (ds ++ d ∷ []) + 1 ≡ suc (length ds + 1) = simp length-append (omega arith) in
    rw n (least_below-none_is (is_lost_with (ds ++ d ∷ [])) (suc (length ds + 1))
    (λ j b. by_place j (lt_or_eq j (length ds + 1) b)))
  where
    lt_or_eq : (j n : ℕ) → j < suc n → (j < n) ⊎ (j ≡ n)
    lt_or_eq j n h = grind arith

    by_place : (j : ℕ) → (j < length ds + 1) ⊎ (j ≡ length ds + 1)
        → is_lost_with (ds ++ d ∷ []) j ≡ false
    by_place j (inl below) =
        lost_with-append ds (d ∷ []) j (omega (arith, below))
        ∙ least_below-none (is_lost_with ds) (length ds + 1) none j below
    by_place j (inr same) = rw same now

-- and where it is lost with that dump
pub lost-now : (ds : List Counts) (d : Counts) → lost_after ds ≡ None
    → is_lost_with (ds ++ d ∷ []) (length ds + 1) ≡ true
    → lost_after (ds ++ d ∷ []) ≡ Some (length ds + 1)
lost-now ds d none now =
    let n : length (ds ++ d ∷ []) + 1 ≡ suc (length ds + 1) = simp length-append (omega arith) in
    rw n (least_below-is (is_lost_with (ds ++ d ∷ [])) (length ds + 1) now
    (λ j b. lost_with-append ds (d ∷ []) j (omega (arith, b))
    ∙ least_below-none (is_lost_with ds) (length ds + 1) none j b))
