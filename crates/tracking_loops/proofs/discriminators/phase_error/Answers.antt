use Rattle.std.proofs.Common.{◌∙◌, arith, rules, w32, w64, FitsSigned}
use Rattle.std.proofs.lemmas.Int.{to_z-of_z, fits_signed_from_abs}
use Rattle.tracking_loops.proofs.ErrorLemmas.{phase_part}
use Rattle.tracking_loops.proofs.discriminators.phase_error.Goals as goal

pub returns-clause-is : goal.returns-clause-is
returns-clause-is c =
    let ip : FitsSigned w32 c.args.counts.now.ip = search rules in
    let qp : FitsSigned w32 c.args.counts.now.qp = search rules in
    let in_phase_fits : FitsSigned w64 c.from-in_phase.result = search rules in
    let quadrature_fits : FitsSigned w64 c.from-quadrature.result = search rules in
    let signed_fits : FitsSigned w64 c.signed.result = search rules in
    let result_fits = fits_signed_from_abs w64 c.ratio.result (omega (arith, c.ratio.ensures.small))
    in
    let part = simp to_z-of_z at c.ratio.ensures.is in
    let turned = simp to_z-of_z at c.signed.ensures.is in
    let in_phase_size = simp to_z-of_z at c.unsigned_abs.ensures.value in
    let quadrature_size = simp to_z-of_z at c.unsigned_abs-2.ensures.value in
    to_z-of_z w64 c.ratio.result result_fits
    ∙ phase_part c.ratio.result c.signed.result c.from-quadrature.result c.from-in_phase.result _ _
    _ _ part turned in_phase_size quadrature_size
    (c.from-quadrature.ensures ∙ to_z-of_z w32 c.args.counts.now.qp qp)
    (c.from-in_phase.ensures ∙ to_z-of_z w32 c.args.counts.now.ip ip)
