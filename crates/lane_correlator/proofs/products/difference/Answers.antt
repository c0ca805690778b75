use Rattle.std.proofs.Common.{◌≡◌, ◌<◌, ◌+◌, ◌-◌, ◌%◌, ℕ, pos}
use Rattle.std.proofs.Common.{w32, FitsSigned, ◌-ℤ◌, to_z, of_z, refl, arith}
use Rattle.std.proofs.lemmas.Int.{ints, to_z-of_z, fits_signed_from_abs}
use Rattle.lane_correlator.proofs.products.difference.Goals as goal

-- a byte less 128, as it is kept in 32 bits
lowered : (n m : ℕ) → n < 256 → n ≡ m
    → to_z w32 (of_z w32 (to_z w32 (of_z w32 (pos n)) -ℤ pos 128)) ≡ pos m -ℤ pos 128
lowered n m small is =
    let fits : FitsSigned w32 (pos n) =
    fits_signed_from_abs w32 (pos n) (omega (arith, small)) in
    let less : FitsSigned w32 (pos n -ℤ pos 128) =
    fits_signed_from_abs w32 (pos n -ℤ pos 128) (omega (arith, ints, small)) in
    rw (to_z-of_z w32 (pos n) fits, to_z-of_z w32 (pos n -ℤ pos 128) less, is) refl

pub returns : goal.returns
returns c =
    let n : ℕ = c.args.sum + (256 - c.args.other) in
    rw c.from.ensures
    (lowered ((n % 256 + 128) % 256) ((n + 128) % 256) (omega arith) (omega arith))
