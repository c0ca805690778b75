-- The bits of a plane.
use Rattle.std.specs.Prelude.{◌≡◌, ℕ, ◌-◌, ◌/◌, ◌%◌, ◌<◌, ◌≤◌, List, slice_index}
use Rattle.std.specs.Int.{bit_at}
use Rattle.bit_planes.specs.declared.plane.Plane.{Plane}
use Rattle.bit_planes.specs.declared.plane.TheConstants.{PLACES}

-- the bit at place i of words of 64, the first place of a word being its top bit
abbrev pub bit_of : List ℕ → ℕ → ℕ
bit_of words i = bit_at (slice_index words (i / 64)) (63 - i % 64)

unfoldable pub bit : Plane → ℕ → ℕ
bit p i = bit_of p.words i

-- the first n places hold f, and all others 0
pub record IsDrawn (f : ℕ → ℕ) (n : ℕ) (p : Plane) : Type 0 where
  pub drawn : (i : ℕ) → i < n → i < PLACES → bit p i ≡ f i
  pub clear : (i : ℕ) → n ≤ i → i < PLACES → bit p i ≡ 0
