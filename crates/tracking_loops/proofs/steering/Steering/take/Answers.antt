use Rattle.std.proofs.Common.{w64, ap, ◌∙◌, arith}
use Rattle.std.specs.Prelude.{ℤ, pos, ◌*ℤ◌}
use Rattle.std.proofs.lemmas.Int.{to_z-of_z, fits_signed_from_abs}
use Rattle.lane_correlator.specs.Counting.{counts_in}
use Rattle.tracking_loops.specs.Standing.{steering_in}
use Rattle.tracking_loops.proofs.SteeringLemmas.{with_parts, rate_is}
use Rattle.tracking_loops.proofs.steering.Steering.take.Goals as goal

pub returns : goal.returns
returns c =
    with_parts (steering_in c.args.self.now) (counts_in c.args.counts) _ _ _
    (to_z-of_z w64 c.carrier_with.result.0 (fits_signed_from_abs w64 c.carrier_with.result.0
    (omega (arith, c.carrier_with.ensures.u_small))) ∙ c.carrier_with.ensures.u)
    (to_z-of_z w64 c.carrier_with.result.1 (fits_signed_from_abs w64 c.carrier_with.result.1
    (omega (arith, c.carrier_with.ensures.v_small))) ∙ c.carrier_with.ensures.v)
    (rate_is c.code_error.result c.code_error.ensures.small
    ∙ ap (λ (e : ℤ). pos 16 *ℤ e) c.code_error.ensures.is)
