-- Samples without their carrier, in lanes of bytes.
use Rattle.std.specs.Prelude.{◌≡◌, ℕ, ◌+◌, ◌*◌, ◌<◌, List, length}
use Rattle.definitions.specs.Samples.{Sample, sample_at}
use Rattle.definitions.specs.Correlation.{wiped_in_phase, wiped_quadrature}
use Rattle.bit_planes.specs.ByteLanes.{place_in}
use Rattle.oscillators.specs.declared.carrier.TheConstants.{MOST_PRODUCT}
use Rattle.lane_correlator.specs.Bytes.{signed_byte, cosine_in, sine_in, AreAtMost}
use Rattle.lane_correlator.specs.declared.wiped.Wiped.{Wiped}

-- 64 lanes of both parts
pub record HasLanes (p : Wiped) : Type 0 where
  pub in_phase : length p.i ≡ 64
  pub quadrature : length p.q ≡ 64

-- the samples of a list from 64 w on, as far as there are any, times the conjugate of a carrier in
-- these eighths; in no lane is a number that is greater in size than such a product can be
pub record IsWiped (xs : List Sample) (w : ℕ) (eighths : List ℕ) (p : Wiped) : Type 0 where
  pub in_phase : (j : ℕ) → j < 64 → 64 * w + j < length xs
      → signed_byte (place_in p.i j) ≡ wiped_in_phase (sample_at xs (64 * w + j))
      (cosine_in (place_in eighths j)) (sine_in (place_in eighths j))
  pub quadrature : (j : ℕ) → j < 64 → 64 * w + j < length xs
      → signed_byte (place_in p.q j) ≡ wiped_quadrature (sample_at xs (64 * w + j))
      (cosine_in (place_in eighths j)) (sine_in (place_in eighths j))
  pub small_in_phase : AreAtMost MOST_PRODUCT p.i
  pub small_quadrature : AreAtMost MOST_PRODUCT p.q
