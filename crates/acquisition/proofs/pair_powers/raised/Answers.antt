use Rattle.std.proofs.Common.{◌+ℤ◌, ℤ, pos, w32, FitsSigned, arith}
use Rattle.std.proofs.lemmas.Int.{ints, to_z-of_z, fits_signed_from_abs}
use Rattle.acquisition.proofs.pair_powers.raised.Goals as goal

pub returns-clause-value : goal.returns-clause-value
returns-clause-value c =
    let sum : ℤ = c.args.sum in
    let fits : FitsSigned w32 sum = fits_signed_from_abs w32 sum (omega (arith, c.requires)) in
    let more : FitsSigned w32 (sum +ℤ pos 65536) =
    fits_signed_from_abs w32 (sum +ℤ pos 65536) (omega (arith, ints, c.requires)) in
    rw (to_z-of_z w32 sum fits, to_z-of_z w32 (sum +ℤ pos 65536) more)
    (omega (arith, ints, c.requires))
