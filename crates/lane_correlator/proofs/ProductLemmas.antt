-- Products of samples with a carrier, from lanes of bytes.
use Rattle.std.proofs.Common.{List, ◌≡◌, ℕ, ◌/◌, ◌%◌, ◌^◌, ◌<◌, ap, ◌∙◌}
use Rattle.std.proofs.Common.{arith, get_or, refl}
use Rattle.std.specs.Prelude.{pos}
use Rattle.definitions.specs.Samples.{Sample}
use Rattle.definitions.specs.Oscillators.{carrier_phase_after, cosine, sine, cosines, sines}
use Rattle.bit_planes.specs.ByteLanes.{place_in}
use Rattle.oscillators.specs.Lanes.{AreEighthLanes}
use Rattle.oscillators.specs.Views.{Oscillation}
use Rattle.lane_correlator.specs.Bytes.{signed_byte, cosine_in, sine_in}
use Rattle.lane_correlator.specs.ByteSums.{IsWiped}
use Rattle.lane_correlator.specs.SampleProducts.{AreProducts, in_phase_of, quadrature_of}
use Rattle.lane_correlator.specs.declared.products.Products.{Products}
use Rattle.lane_correlator.specs.declared.wiped.Wiped.{Wiped}

module _ (xs : List Sample) (w : ℕ) (carrier : Oscillation) (eighths : List ℕ) (wiped : Wiped)
    (products : Products) (at : AreEighthLanes carrier.phase carrier.step eighths)
    (is : IsWiped xs w eighths wiped)
    (in_phase : (j : ℕ) → j < 64 → in_phase_of products j ≡ signed_byte (place_in wiped.i j))
    (quadrature : (j : ℕ) → j < 64
    → quadrature_of products j ≡ signed_byte (place_in wiped.q j)) where
  of_cycle : (j : ℕ) → j < 64
      → place_in eighths j % 8 ≡ carrier_phase_after carrier.phase carrier.step j / 2 ^ 29
  of_cycle j h = omega (arith, at.eighths j h)

  cosine_is : (j : ℕ) → j < 64 → cosine_in (place_in eighths j)
      ≡ cosine (carrier_phase_after carrier.phase carrier.step j)
  cosine_is j h = ap (λ (e : ℕ). get_or cosines e (pos 0)) (of_cycle j h)

  sine_is : (j : ℕ) → j < 64 → sine_in (place_in eighths j)
      ≡ sine (carrier_phase_after carrier.phase carrier.step j)
  sine_is j h = ap (λ (e : ℕ). get_or sines e (pos 0)) (of_cycle j h)

  pub products_are : AreProducts xs w carrier products
  products_are = record {
    in_phase = λ j h long.
        in_phase j h ∙ is.in_phase j h long
        ∙ rw (cosine_is j h, sine_is j h) refl;
    quadrature = λ j h long.
        quadrature j h ∙ is.quadrature j h long ∙ rw (cosine_is j h, sine_is j h) refl;
  }
