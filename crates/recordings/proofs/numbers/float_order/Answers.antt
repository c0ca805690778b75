use Rattle.std.proofs.Common.{◌≡◌, ◌%◌, ◌∙◌, ◌^◌, ◌-◌, sym, arith}
use Rattle.std.specs.Prelude.{pos, neg_ℤ, ◌-ℤ◌}
use Rattle.std.proofs.lemmas.Int.{ints}
use mir.Syntax.{w32}
use mir.Val.{to_z, of_z}
use Rattle.recordings.proofs.ReadingLemmas.{float_order-low, float_order-high}
use Rattle.recordings.proofs.numbers.float_order.Goals as goal

pub returns-then-bits-lt-SIGN_BIT-clause-value : goal.returns-then-bits-lt-SIGN_BIT-clause-value
returns-then-bits-lt-SIGN_BIT-clause-value c =
    let m : c.args.bits % 2 ^ 31 ≡ c.args.bits = omega arith in
    rw m (let e : to_z w32 c.args.bits ≡ pos c.args.bits = omega (arith, ints) in e)
    ∙ sym (float_order-low c.args.bits c.if-bits-lt-SIGN_BIT.true)

pub returns-else-bits-lt-SIGN_BIT-clause-value : goal.returns-else-bits-lt-SIGN_BIT-clause-value
returns-else-bits-lt-SIGN_BIT-clause-value c =
    let m : c.args.bits % 2 ^ 31 ≡ c.args.bits - 2 ^ 31 = omega arith in
    rw m (let e : to_z w32 (of_z w32 (pos 0 -ℤ to_z w32 (c.args.bits - 2 ^ 31)))
    ≡ neg_ℤ (pos (c.args.bits - 2 ^ 31)) = omega (arith, ints) in e)
    ∙ sym (float_order-high c.args.bits c.if-bits-lt-SIGN_BIT.false)
