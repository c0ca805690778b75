use Rattle.std.proofs.Common.{◌∙◌, arith, w64}
use Rattle.std.proofs.lemmas.Int.{to_z-of_z, fits_signed_from_abs}
use Rattle.tracking_loops.proofs.ErrorLemmas.{turned_part}
use Rattle.tracking_loops.proofs.discriminators.frequency_error.Goals as goal

pub returns-clause-is : goal.returns-clause-is
returns-clause-is c =
    let cross_fits = fits_signed_from_abs w64 c.cross-cross.result
    (omega (arith, c.cross-cross.ensures.small)) in
    let dot_fits = fits_signed_from_abs w64 c.dot-dot.result
    (omega (arith, c.dot-dot.ensures.small)) in
    let signed_size = simp to_z-of_z at c.signed.ensures.size in
    let signed_fits = fits_signed_from_abs w64 c.signed.result
    (omega (arith, signed_size, c.cross-cross.ensures.small)) in
    let result_fits = fits_signed_from_abs w64 c.ratio.result (omega (arith, c.ratio.ensures.small))
    in
    let part = simp to_z-of_z at c.ratio.ensures.is in
    let turned = simp to_z-of_z at c.signed.ensures.is in
    let cross_size = simp to_z-of_z at c.unsigned_abs.ensures.value in
    let dot_size = simp to_z-of_z at c.unsigned_abs-2.ensures.value in
    to_z-of_z w64 c.ratio.result result_fits
    ∙ turned_part c.ratio.result c.signed.result c.cross-cross.result c.dot-dot.result _ _ _ _ part
    turned cross_size dot_size c.cross-cross.ensures.is c.dot-dot.ensures.is
