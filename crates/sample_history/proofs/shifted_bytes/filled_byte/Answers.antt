use Rattle.std.proofs.Common.{◌≡◌, ◌%◌, refl}
use Rattle.std.proofs.Math.Nat.{mod-eq_of_lt}
use Rattle.sample_history.specs.Shifts.{byte_of_two}
use Rattle.sample_history.proofs.shifted_bytes.filled_byte.Goals as goal

pub returns : goal.returns
unfolding byte_of_two
returns c =
    let whole : c.args.behind % 256 ≡ c.args.behind = mod-eq_of_lt c.ranges.behind.fits in
    rw whole refl
