use Rattle.std.proofs.Common.{◌∙◌, ◌+◌, sym, arith}
use Rattle.packer.specs.declared.halves.TheConstants.{MOST_WHOLE}
use Rattle.packer.proofs.TextLemmas.{read_within, read_beyond, read_none}
use Rattle.packer.proofs.halves.whole.Goals as goal

pub returns-in_err-number-clause-value : goal.returns-in_err-number-clause-value
returns-in_err-number-clause-value c =
    c.from_residual.ensures
    ∙ read_none c.parse.result c.args.text.now (MOST_WHOLE + 1) c.parse.ensures.value.0
    (sym c.ok.ensures.value ∙ c.in_err-number.was) (omega arith)

pub returns-then-number-le-MOST_WHOLE-clause-value :
    goal.returns-then-number-le-MOST_WHOLE-clause-value
returns-then-number-le-MOST_WHOLE-clause-value c =
    read_within c.parse.result c.args.text.now (MOST_WHOLE + 1) c.in_ok-number.number
    c.parse.ensures.value.0 (sym c.ok.ensures.value ∙ c.in_ok-number.was)
    (omega (arith, c.if-number-le-MOST_WHOLE.true))

pub returns-else-number-le-MOST_WHOLE-clause-value :
    goal.returns-else-number-le-MOST_WHOLE-clause-value
returns-else-number-le-MOST_WHOLE-clause-value c =
    read_beyond c.parse.result c.args.text.now (MOST_WHOLE + 1) c.in_ok-number.number
    c.parse.ensures.value.0 (sym c.ok.ensures.value ∙ c.in_ok-number.was)
    (omega (arith, c.if-number-le-MOST_WHOLE.false))
