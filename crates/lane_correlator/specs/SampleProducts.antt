-- Samples times the conjugate of a carrier.
use Rattle.std.specs.Prelude.{◌≡◌, ℕ, ℤ, ◌+◌, ◌*◌, ◌<◌, List, length}
use Rattle.definitions.specs.Samples.{Sample, sample_at}
use Rattle.definitions.specs.Oscillators.{carrier_phase_after, cosine, sine}
use Rattle.definitions.specs.Correlation.{wiped_in_phase, wiped_quadrature}
use Rattle.oscillators.specs.Views.{Oscillation}
use Rattle.lane_correlator.specs.RunningSums.{part_in}
use Rattle.lane_correlator.specs.declared.products.Products.{Products}

-- the parts of a product
abbrev pub in_phase_of : Products → ℕ → ℤ
in_phase_of products j = part_in products.in_phase j

abbrev pub quadrature_of : Products → ℕ → ℤ
quadrature_of products j = part_in products.quadrature j

-- the products of the samples of a list from 64 w on, as far as there are any, with a carrier that
-- stands at the first of them
pub record AreProducts (xs : List Sample) (w : ℕ) (carrier : Oscillation) (products : Products)
    : Type 0 where
  pub in_phase : (j : ℕ) → j < 64 → 64 * w + j < length xs
      → in_phase_of products j ≡ wiped_in_phase (sample_at xs (64 * w + j))
      (cosine (carrier_phase_after carrier.phase carrier.step j))
      (sine (carrier_phase_after carrier.phase carrier.step j))
  pub quadrature : (j : ℕ) → j < 64 → 64 * w + j < length xs
      → quadrature_of products j ≡ wiped_quadrature (sample_at xs (64 * w + j))
      (cosine (carrier_phase_after carrier.phase carrier.step j))
      (sine (carrier_phase_after carrier.phase carrier.step j))
