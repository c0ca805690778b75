use Rattle.std.proofs.Common.{◌≡◌, arith}
use Rattle.std.specs.Prelude.{pos, neg_ℤ, if◌then◌else◌}
use Rattle.std.proofs.lemmas.Int.{ints}
use mir.Syntax.{w64}
use mir.Val.{to_z}
use Rattle.receiver_options.proofs.asked.settings_of.Goals.{then-is_minus, else-is_minus}
use Rattle.receiver_options.proofs.asked.settings_of.Goals as goal

pub returns-clause-same : goal.returns-clause-same
returns-clause-same c =
    let signed : to_z w64 c.if-is_minus.offset-bits
    ≡ (if c.args.is_minus then neg_ℤ (pos c.args.offset) else pos c.args.offset) =
    elim c.if-is_minus.branch [
      | then-is_minus w ↦ rw w.if-is_minus.true
          (omega (arith, ints, w.offset-is, c.from-offset.ensures, c.ranges.offset.fits))
      | else-is_minus w ↦ rw w.if-is_minus.false
          (omega (arith, ints, w.offset-is, c.from-offset.ensures, c.ranges.offset.fits))
    ] in
    rw (← signed) c.new.ensures.same
