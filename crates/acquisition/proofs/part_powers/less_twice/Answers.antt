use Rattle.std.proofs.Common.{◌-ℤ◌, ◌*ℤ◌, ℤ, pos, w32, FitsSigned, arith}
use Rattle.std.proofs.lemmas.Int.{ints, to_z-of_z, to_z_pos, fits_signed_from_abs}
use Rattle.acquisition.proofs.part_powers.less_twice.Goals as goal

pub returns : goal.returns
returns c =
    let whole : ℤ = c.args.whole in
    let r = c.requires in
    let far : ℤ = pos c.args.picked -ℤ pos c.args.raised in
    let whole_fits : FitsSigned w32 whole =
    fits_signed_from_abs w32 whole (omega (arith, r.whole)) in
    let far_fits : FitsSigned w32 far =
    fits_signed_from_abs w32 far (omega (arith, ints, r.picked, r.raised)) in
    let twice : FitsSigned w32 (pos 2 *ℤ far) =
    fits_signed_from_abs w32 (pos 2 *ℤ far) (omega (arith, ints, r.picked, r.raised)) in
    let less : FitsSigned w32 (whole -ℤ pos 2 *ℤ far) =
    fits_signed_from_abs w32 (whole -ℤ pos 2 *ℤ far)
    (omega (arith, ints, r.whole, r.picked, r.raised)) in
    rw (
      to_z_pos w32 c.args.picked (omega (arith, r.picked)),
      to_z_pos w32 c.args.raised (omega (arith, r.raised)),
      to_z-of_z w32 far far_fits,
      to_z-of_z w32 (pos 2 *ℤ far) twice,
      to_z-of_z w32 whole whole_fits,
    )
    (to_z-of_z w32 (whole -ℤ pos 2 *ℤ far) less)
