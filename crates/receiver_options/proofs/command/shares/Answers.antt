use Rattle.std.proofs.Common.{ap, codes, ◌∙◌}
use Rattle.std.specs.Prelude.{Some}
use Rattle.clap.specs.declared.builder.action.ArgAction.TheVariants.{Set}
use Rattle.clap.specs.declared.builder.arg.Arg.{Arg}
use Rattle.clap.specs.Walk.{Rule, rule_of}
use Rattle.receiver_options.proofs.command.shares.Goals as goal

abbrev named : Rule → Rule
named rule = record rule {
  long = Some (codes "shares");
  action = Some Set;
  value_names = 1;
}

pub returns-clause-rule : goal.returns-clause-rule
returns-clause-rule c =
    ap rule_of c.help.ensures ∙ ap rule_of c.action.ensures
    ∙ ap (λ (a : Arg). rule_of (record a { action = Some Set })) c.value_name.ensures
    ∙ ap (λ (a : Arg). record (rule_of a) { action = Some Set; value_names = 1 }) c.long.ensures
    ∙ ap named c.new.ensures.rule
