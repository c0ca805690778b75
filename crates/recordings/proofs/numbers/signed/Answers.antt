use Rattle.std.proofs.Common.{◌≡◌, ◌∙◌, sym, arith}
use Rattle.std.specs.Prelude.{pos}
use Rattle.std.proofs.lemmas.Int.{ints}
use mir.Syntax.{w64}
use mir.Val.{to_z, of_z}
use Rattle.recordings.proofs.ReadingLemmas.{lowered, signed-high, signed-low}
use Rattle.recordings.proofs.numbers.signed.Goals as goal

pub returns-then-n-half-clause-value : goal.returns-then-n-half-clause-value
returns-then-n-half-clause-value c =
    rw c.from-value.ensures (let e : to_z w64 (of_z w64 (pos c.args.n)) ≡ pos c.args.n = omega
    (arith, ints) in e)
    ∙ sym (signed-low c.args.half c.args.n c.if-n-half.true)

pub returns-else-n-half-clause-value : goal.returns-else-n-half-clause-value
returns-else-n-half-clause-value c =
    lowered c.args.half c.args.n c.from.result c.from-value.result c.requires.half c.requires.range
    c.from.ensures c.from-value.ensures
    ∙ sym (signed-high c.args.half c.args.n c.if-n-half.false)
