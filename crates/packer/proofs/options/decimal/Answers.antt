use Rattle.std.proofs.Common.{◌∙◌, sym}
use Rattle.std.specs.Prelude.{None, Some}
use Rattle.packer.proofs.TextLemmas.{decimal_found, no_decimal}
use Rattle.packer.proofs.options.decimal.Goals as goal

pub returns-in-Some-clause-value : goal.returns-in-Some-clause-value
returns-in-Some-clause-value c =
    decimal_found c.args.text.now c.in-Ok.number (Some c.in-Some.bits) c.in-Ok.ensures.value.1
    (sym c.finite_bits.ensures ∙ c.in-Some.is)

pub returns-in-None-clause-value : goal.returns-in-None-clause-value
returns-in-None-clause-value c =
    decimal_found c.args.text.now c.in-Ok.number None c.in-Ok.ensures.value.1
    (sym c.finite_bits.ensures ∙ c.in-None.is)

pub returns-in-Err-clause-value : goal.returns-in-Err-clause-value
returns-in-Err-clause-value c = no_decimal c.args.text.now c.in-Err.ensures.value.1
