use Rattle.std.proofs.Common.{◌∙◌}
use Rattle.packer.proofs.TextLemmas.{pairs_kind, plain_kind}
use Rattle.packer.proofs.formats.kind.Goals as goal

pub returns-in-Some-clause-kind : goal.returns-in-Some-clause-kind
returns-in-Some-clause-kind c =
    let strip = c.in-Some.ensures.cases in
    c.named_kind.ensures
    ∙ pairs_kind c.args.name.now c.in-Some.rest.now strip.0 strip.1.1 strip.1.0 strip.2

pub returns-in-None-clause-kind : goal.returns-in-None-clause-kind
returns-in-None-clause-kind c =
    c.named_kind-in-None.ensures ∙ plain_kind c.args.name.now c.in-None.ensures.cases
