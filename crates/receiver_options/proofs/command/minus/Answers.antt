use Rattle.std.proofs.Common.{ap, codes, ◌∙◌}
use Rattle.std.specs.Prelude.{Some}
use Rattle.clap.specs.declared.builder.action.ArgAction.TheVariants.{SetTrue}
use Rattle.clap.specs.declared.builder.arg.Arg.{Arg}
use Rattle.clap.specs.Walk.{Rule, rule_of}
use Rattle.receiver_options.proofs.command.minus.Goals as goal

pub returns-clause-rule : goal.returns-clause-rule
returns-clause-rule c =
    ap rule_of c.help.ensures ∙ ap rule_of c.action.ensures
    ∙ ap (λ (a : Arg). rule_of (record a { action = Some SetTrue })) c.long.ensures
    ∙ ap (λ (r : Rule). record r { long = Some (codes "minus"); action = Some SetTrue })
    c.new.ensures.rule
