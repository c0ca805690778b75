-- The rings of a fold.
use Rattle.std.specs.Prelude.{◌≡◌, Bool, true, false, ℕ, List}
use Rattle.acquisition.specs.Rings.{ArePairsOf, IsRing}
use Rattle.acquisition.specs.declared.fold.Fold.{Fold}

-- two rings have both parts of a fold: the first one the pairs where these are small, else each one
-- a part
pub record AreRingsOf (fold : Fold) (is_small : Bool) (first second : List ℕ) : Type 0 where
  pub pairs : is_small ≡ true → ArePairsOf fold.in_phase.sums fold.quadrature.sums first
  pub in_phase : is_small ≡ false → IsRing fold.in_phase.sums first
  pub quadrature : is_small ≡ false → IsRing fold.quadrature.sums second
