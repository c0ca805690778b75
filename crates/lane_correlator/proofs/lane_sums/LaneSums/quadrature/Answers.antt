use Rattle.std.proofs.Common.{w32, ◌∙◌, arith}
use Rattle.std.proofs.lemmas.Int.{to_z-of_z, fits_signed_from_abs}
use Rattle.lane_correlator.proofs.lane_sums.LaneSums.quadrature.Goals as goal

pub returns-clause-value : goal.returns-clause-value
returns-clause-value c =
    let sum = c.sum_of_lanes in
    to_z-of_z w32 sum.result
    (fits_signed_from_abs w32 sum.result (omega (arith, sum.ensures.small))) ∙ sum.ensures.value
