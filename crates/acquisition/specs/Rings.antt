-- What a ring of chips stands for.
use Rattle.std.specs.Prelude.{◌≡◌, ◌≤◌, ◌<◌, ◌+◌, ◌*◌, ◌%◌, ◌^◌, ℕ, ℤ, pos, ◌+ℤ◌, ◌-◌}
use Rattle.std.specs.Prelude.{◌-ℤ◌, ◌*ℤ◌, unsigned_abs}
use Rattle.std.specs.Prelude.{List, get_or, slice_index, length}
use Rattle.definitions.specs.Sums.{total}
use Rattle.acquisition.specs.Ones.{count_of, next_place}
use Rattle.acquisition.specs.declared.half_chip_table.TheConstants.{HALF_CHIPS, LAST}
use Rattle.acquisition.specs.declared.ones.Ones.{Ones}
use Rattle.acquisition.specs.declared.sums.TheConstants.{MOST_PERIOD_SUM}
use Rattle.acquisition.specs.declared.chip_ring.TheConstants.{RING, RAISED, CELLS_AT_ONCE}
use Rattle.bit_planes.specs.declared.lanes.TheConstants.{LANES}

-- the sum over the chip that begins at half chip k, from a table by half chips
abbrev pub chip_from : List ℤ → ℕ → ℤ
chip_from table k = get_or table k (pos 0) +ℤ get_or table ((k + 1) % HALF_CHIPS) (pos 0)

-- the half chip of a place in a ring: it is so many before the last one, counted around the code
abbrev pub half_chip_in_ring : ℕ → ℕ
half_chip_in_ring place = (HALF_CHIPS + LAST - place) % HALF_CHIPS

abbrev pub IsRing : List ℤ → List ℕ → Type 0
IsRing table ring = (i : ℕ) → i < RING → pos (slice_index ring i)
    ≡ pos RAISED +ℤ chip_from table (half_chip_in_ring i)

-- each entry of a ring is that of a first one plus 2^16 times that of a second one, modulo 2^32
abbrev pub ArePaired : List ℕ → List ℕ → List ℕ → Type 0
ArePaired first second pairs = (i : ℕ) → i < RING → slice_index pairs i
    ≡ (slice_index first i + 2 ^ 16 * slice_index second i) % 2 ^ 32

-- a ring has the pairs of the rings of two tables
pub record ArePairsOf (first second : List ℤ) (pairs : List ℕ) : Type 0 where
  pub first_ring : List ℕ
  pub second_ring : List ℕ
  pub is_first : IsRing first first_ring
  pub is_second : IsRing second second_ring
  pub are_paired : ArePaired first_ring second_ring pairs

-- a vector's lanes are the entries of a ring from a place on
pub record AreEntries (ring : List ℕ) (at : ℕ) (lanes : List ℕ) : Type 0 where
  pub long : length lanes ≡ LANES
  pub are : (l : ℕ) → l < LANES → slice_index lanes l ≡ slice_index ring (at + l)

-- the place of a chip for a code that begins at a half chip, from that for one that begins at 0
abbrev pub place_of : ℕ → ℕ → ℕ
place_of half first = (half + first) % HALF_CHIPS

-- the entry of a chip at a place with that of the next chip
abbrev pub with_next : (ℕ → ℕ) → ℕ → ℕ
with_next entry i = entry i + entry (next_place i)

-- the sum of entries by place at the first n of some chips, for the code that begins l half chips
-- after half chip `half`
abbrev pub sum_at : (ℕ → ℕ) → ℕ → List ℕ → ℕ → ℕ → ℤ
sum_at entry half places n l =
    total (λ k. pos (entry (place_of half (slice_index places k) + l))) n

-- the sum of entries at the chips of 1, for the code that begins l half chips later
abbrev pub IsSumAtOnes : Ones → (ℕ → ℕ) → ℕ → ℕ → ℕ → Type 0
IsSumAtOnes ones entry half l sum = pos sum
    ≡ sum_at entry half ones.alone.items (length ones.alone.items) l
    +ℤ sum_at (with_next entry) half ones.twos.items (length ones.twos.items) l

-- the pair of two such sums, modulo 2^32
pub record IsPairAtOnes (ones : Ones) (first second : ℕ → ℕ) (half l pair : ℕ) : Type 0 where
  pub of_first : ℕ
  pub of_second : ℕ
  pub is_first : IsSumAtOnes ones first half l of_first
  pub is_second : IsSumAtOnes ones second half l of_second
  pub is_pair : pair ≡ (of_first + 2 ^ 16 * of_second) % 2 ^ 32

-- the sum of a cell, from that of all samples and that at so many chips of 1
abbrev pub cell_sum : ℤ → ℕ → ℕ → ℤ
cell_sum whole at_ones ones = whole -ℤ pos 2 *ℤ (pos at_ones -ℤ pos (RAISED * ones))

-- no cell has a sum that is greater in size than those over a period
abbrev pub HasSmallCells : List ℕ → ℤ → Type 0
HasSmallCells ring whole = (ones : Ones) (half l at_ones : ℕ) → half < HALF_CHIPS
    → l < CELLS_AT_ONCE → IsSumAtOnes ones (slice_index ring) half l at_ones
    → unsigned_abs (cell_sum whole at_ones (count_of ones.alone.items ones.twos.items))
    ≤ MOST_PERIOD_SUM

-- a ring has raised sums over a chip
abbrev pub AreRaised : List ℕ → Type 0
AreRaised ring = (i : ℕ) → i < RING → slice_index ring i ≤ 2 * RAISED

-- a ring has such sums of one part, whose sum over all samples is this
pub record IsPart (ring : List ℕ) (whole : ℤ) : Type 0 where
  pub raised : AreRaised ring
  pub cells : HasSmallCells ring whole
