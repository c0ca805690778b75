use Rattle.std.proofs.Common.{◌≡◌, ◌%◌, refl}
use Rattle.std.proofs.Math.Nat.{mod-eq_of_lt}
use Rattle.sample_history.specs.Shifts.{eight_bits}
use Rattle.sample_history.proofs.shifted_bytes.bits_of_two.Goals as goal

pub returns : goal.returns
unfolding eight_bits
returns c =
    let whole : c.args.low % 256 ≡ c.args.low = mod-eq_of_lt c.ranges.low.fits in
    rw whole refl
