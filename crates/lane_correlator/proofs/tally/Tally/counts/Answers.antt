use Rattle.std.proofs.Common.{◌≡◌, ◌≤◌, ℤ, w32, to_z, of_z, refl, ◌∙◌, arith}
use Rattle.std.specs.Prelude.{unsigned_abs}
use Rattle.std.proofs.lemmas.Int.{to_z-of_z, fits_signed_from_abs}
use Rattle.lane_correlator.specs.declared.lane_sums.TheConstants.{MOST_OF_LANES}
use Rattle.lane_correlator.proofs.tally.Tally.counts.Goals as goal

-- a small sum, as it is kept in 32 bits
kept : (z v : ℤ) → unsigned_abs z ≤ MOST_OF_LANES → z ≡ v → to_z w32 (of_z w32 z) ≡ v
kept z v small is = to_z-of_z w32 z (fits_signed_from_abs w32 z (omega (arith, small))) ∙ is

pub returns-clause-sums : goal.returns-clause-sums
returns-clause-sums c =
    rw (
      kept c.in_phase.result _ c.in_phase.ensures.small c.in_phase.ensures.value,
      kept c.quadrature.result _ c.quadrature.ensures.small c.quadrature.ensures.value,
      kept c.in_phase-2.result _ c.in_phase-2.ensures.small c.in_phase-2.ensures.value,
      kept c.quadrature-2.result _ c.quadrature-2.ensures.small c.quadrature-2.ensures.value,
      kept c.in_phase-3.result _ c.in_phase-3.ensures.small c.in_phase-3.ensures.value,
      kept c.quadrature-3.result _ c.quadrature-3.ensures.small c.quadrature-3.ensures.value,
    )
    refl
