use Rattle.std.proofs.Common.{◌≡◌, ◌+◌, ◌-◌, ◌*◌, ◌%◌, ℕ, arith}
use Rattle.sample_planes.proofs.format.Format.last_bit.Goals as goal

pub returns-in-Real1-clause-place : goal.returns-in-Real1-clause-place
returns-in-Real1-clause-place c =
    let n : ℕ = c.args.n in
    let last : 7 - n % 8 + 1 * (n % 8 + 1) ≡ 8 = omega arith in
    rw c.in-Real1.is last

pub returns-in-Iq2-clause-place : goal.returns-in-Iq2-clause-place
returns-in-Iq2-clause-place c =
    let n : ℕ = c.args.n in
    let last : 4 - 4 * (n % 2) + 4 * (n % 2 + 1) ≡ 8 = omega arith in
    rw c.in-Iq2.is last
