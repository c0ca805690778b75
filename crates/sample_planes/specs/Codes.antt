-- Samples by codes of their parts, 64 of them in lanes: lane 63 - j is the sample j after the
-- first.
use Rattle.std.specs.Prelude.{◌≡◌, ℕ, ◌+◌, ◌*◌, ◌/◌, ◌%◌, ◌<◌, ℤ, List, length, slice_index}
use Rattle.definitions.specs.Samples.{Sample, sample_at}
use Rattle.bit_planes.specs.ByteLanes.{place_in}
use Rattle.sample_planes.specs.Signs.{part_of}

-- a number is the code of some part
pub record IsCodeNumber (code : ℕ) : Type 0 where
  pub fourth : code % 4 ≡ 0
  pub few : code < 16

-- the code of a part: 4 where it is below 0, and 8 more where it is 3 in size
pub record IsCode (part : ℤ) (code : ℕ) : Type 0 where
  pub fourth : code % 4 ≡ 0
  pub few : code < 16
  pub value : part ≡ part_of (code / 4 % 2) (code / 8)

-- all lanes have codes, those of the parts in phase of a list of samples from 64 w on, as far as
-- there are any
pub record AreCodes (xs : List Sample) (w : ℕ) (lanes : List ℕ) : Type 0 where
  pub long : length lanes ≡ 64
  pub few : (k : ℕ) → k < 64 → slice_index lanes k < 16
  pub fourth : (k : ℕ) → k < 64 → slice_index lanes k % 4 ≡ 0
  pub codes : (j : ℕ) → j < 64 → 64 * w + j < length xs
      → IsCode (sample_at xs (64 * w + j)).in_phase (place_in lanes j)

-- the same of the parts in quadrature
pub record AreQuadratureCodes (xs : List Sample) (w : ℕ) (lanes : List ℕ) : Type 0 where
  pub long : length lanes ≡ 64
  pub few : (k : ℕ) → k < 64 → slice_index lanes k < 16
  pub fourth : (k : ℕ) → k < 64 → slice_index lanes k % 4 ≡ 0
  pub codes : (j : ℕ) → j < 64 → 64 * w + j < length xs
      → IsCode (sample_at xs (64 * w + j)).quadrature (place_in lanes j)
