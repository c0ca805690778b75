use Rattle.std.proofs.Common.{◌+◌, ◌*◌, ◌-ℤ◌, ℕ, pos, w32, FitsSigned, arith}
use Rattle.std.proofs.lemmas.Int.{ints, to_z-of_z, to_z_pos, fits_signed_from_abs}
use Rattle.acquisition.proofs.pair_powers.lowered.Goals as goal

pub returns-clause-value : goal.returns-clause-value
returns-clause-value c =
    let sum : ℕ = 2 * c.args.half + c.args.rest in
    let less : FitsSigned w32 (pos sum -ℤ pos 65536) =
    fits_signed_from_abs w32 (pos sum -ℤ pos 65536)
    (omega (arith, ints, c.requires.half, c.requires.rest)) in
    rw (to_z_pos w32 sum (omega (arith, c.requires.half, c.requires.rest)))
    (to_z-of_z w32 (pos sum -ℤ pos 65536) less)
