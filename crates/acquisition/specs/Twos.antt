-- Rings that are read for two chips at once, and the pairs of sums from them.
use Rattle.std.specs.Prelude.{◌≡◌, ◌<◌, ◌+◌, ◌*◌, ◌%◌, ◌^◌, ℕ, ℤ, pos}
use Rattle.std.specs.Prelude.{List, length, slice_index}
use Rattle.acquisition.specs.Rings.{with_next}
use Rattle.acquisition.specs.declared.chip_ring.TheConstants.{RING}
use Rattle.acquisition.specs.declared.pair_lanes.PairLanes.{PairLanes}
use Rattle.bit_planes.specs.declared.lanes.TheConstants.{LANES}
use Rattle.acquisition.specs.declared.half_chip_table.TheConstants.{HALF_CHIPS}

-- after the last half chip a ring begins anew
abbrev pub IsClosed : List ℕ → Type 0
IsClosed ring = (i : ℕ) → i < RING → slice_index ring i ≡ slice_index ring (i % HALF_CHIPS)

-- a ring has the entries of two chips each, modulo 2^32
abbrev pub AreTwos : List ℕ → List ℕ → Type 0
AreTwos ring twos = (i : ℕ) → i < RING → slice_index twos i
    ≡ with_next (slice_index ring) i % 2 ^ 32

-- a ring has pairs of such numbers, modulo 2^32
abbrev pub HasPairs : (ℕ → ℕ) → (ℕ → ℕ) → List ℕ → Type 0
HasPairs first second ring = (i : ℕ) → i < RING
    → slice_index ring i ≡ (first i + 2 ^ 16 * second i) % 2 ^ 32

-- a lane is the pair of two sums, modulo 2^32
pub record IsPair (lane : ℕ) (first second : ℤ) : Type 0 where
  pub of_first : ℕ
  pub of_second : ℕ
  pub is_first : pos of_first ≡ first
  pub is_second : pos of_second ≡ second
  pub is_pair : lane ≡ (of_first + 2 ^ 16 * of_second) % 2 ^ 32

-- the lanes of a vector are so for the cells from a number on, and those of four for 64 cells
pub record ArePairs (first second : ℕ → ℤ) (from : ℕ) (lanes : List ℕ) : Type 0 where
  pub long : length lanes ≡ LANES
  pub are : (l : ℕ) → l < LANES
      → IsPair (slice_index lanes l) (first (from + l)) (second (from + l))

pub record AreAllPairs (first second : ℕ → ℤ) (lanes : PairLanes) : Type 0 where
  pub first_are : ArePairs first second 0 lanes.first
  pub second_are : ArePairs first second LANES lanes.second
  pub third_are : ArePairs first second (2 * LANES) lanes.third
  pub fourth_are : ArePairs first second (3 * LANES) lanes.fourth
