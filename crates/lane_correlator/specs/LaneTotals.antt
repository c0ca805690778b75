-- Sums of products in lanes of bytes, as the code keeps them.
use Rattle.std.specs.Prelude.{◌≡◌, ℕ, ◌+◌, ◌%◌, ◌<◌, ◌≤◌, List, slice_index, ℤ, unsigned_abs}
use Rattle.lane_correlator.specs.Bytes.{lane_of, sum_of_lanes}
use Rattle.lane_correlator.specs.declared.lane_sums.LaneSums.{LaneSums}

-- no lane has anything
pub record AreNone (s : LaneSums) : Type 0 where
  pub in_phase : (k : ℕ) → k < 32 → slice_index s.i k ≡ 0
  pub quadrature : (k : ℕ) → k < 32 → slice_index s.q k ≡ 0

-- lanes with two numbers more each, modulo 256
pub record AreAdded (i q : List ℕ) (s t : LaneSums) : Type 0 where
  pub in_phase : (k : ℕ) → k < 32 → slice_index t.i k
      ≡ (slice_index s.i k + slice_index i k + slice_index i (32 + k)) % 256
  pub quadrature : (k : ℕ) → k < 32 → slice_index t.q k
      ≡ (slice_index s.q k + slice_index q k + slice_index q (32 + k)) % 256

-- both sums with one kind of chips
abbrev pub in_phase_of : LaneSums → LaneSums → ℤ
in_phase_of all turned = sum_of_lanes all.i turned.i

abbrev pub quadrature_of : LaneSums → LaneSums → ℤ
quadrature_of all turned = sum_of_lanes all.q turned.q

-- no lane of them is more than n in size
pub record AreLow (n : ℕ) (all turned : LaneSums) : Type 0 where
  pub in_phase : (k : ℕ) → k < 32 → unsigned_abs (lane_of all.i turned.i k) ≤ n
  pub quadrature : (k : ℕ) → k < 32 → unsigned_abs (lane_of all.q turned.q k) ≤ n
