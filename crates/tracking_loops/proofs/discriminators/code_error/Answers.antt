use Rattle.std.proofs.Common.{◌+◌, ◌∙◌, arith, rules, w32, w64, FitsSigned}
use Rattle.std.proofs.lemmas.Int.{to_z-of_z, fits_signed_from_abs}
use Rattle.tracking_loops.proofs.WideLemmas.{difference_fits, difference_is, difference_small}
use Rattle.tracking_loops.proofs.ErrorLemmas.{difference_part}
use Rattle.tracking_loops.proofs.discriminators.code_error.Goals as goal

pub overflow_sub-early : goal.overflow_sub-early
overflow_sub-early c = difference_fits c.power-early.result c.power-late.result
    (omega (arith, c.power-early.ensures.small)) (omega (arith, c.power-late.ensures.small))

pub ratio-requires-clause-within : goal.ratio-requires-clause-within
ratio-requires-clause-within c =
    let early_fits = fits_signed_from_abs w64 c.power-early.result
    (omega (arith, c.power-early.ensures.small)) in
    let late_fits = fits_signed_from_abs w64 c.power-late.result
    (omega (arith, c.power-late.ensures.small)) in
    let early_size = simp to_z-of_z at c.unsigned_abs.ensures.value in
    let late_size = simp to_z-of_z at c.unsigned_abs-2.ensures.value in
    difference_small c.power-early.result c.power-late.result
    (omega (arith, c.power-early.ensures.small)) (omega (arith, c.power-late.ensures.small))
    (c.unsigned_abs.result + c.unsigned_abs-2.result) (omega (arith, early_size, late_size))

pub returns-clause-is : goal.returns-clause-is
returns-clause-is c =
    let ie : FitsSigned w32 c.args.counts.now.ie = search rules in
    let qe : FitsSigned w32 c.args.counts.now.qe = search rules in
    let il : FitsSigned w32 c.args.counts.now.il = search rules in
    let ql : FitsSigned w32 c.args.counts.now.ql = search rules in
    let early_fits = fits_signed_from_abs w64 c.power-early.result
    (omega (arith, c.power-early.ensures.small)) in
    let late_fits = fits_signed_from_abs w64 c.power-late.result
    (omega (arith, c.power-late.ensures.small)) in
    let result_fits = fits_signed_from_abs w64 c.ratio.result (omega (arith, c.ratio.ensures.small))
    in
    let early_size = simp to_z-of_z at c.unsigned_abs.ensures.value in
    let late_size = simp to_z-of_z at c.unsigned_abs-2.ensures.value in
    let early = simp to_z-of_z at c.power-early.ensures.is in
    let late = simp to_z-of_z at c.power-late.ensures.is in
    to_z-of_z w64 c.ratio.result result_fits
    ∙ difference_part c.ratio.result _ c.power-early.result c.power-late.result _ _ _ _
    c.ratio.ensures.is
    (difference_is c.power-early.result c.power-late.result
    (omega (arith, c.power-early.ensures.small)) (omega (arith, c.power-late.ensures.small)))
    early_size late_size early late
