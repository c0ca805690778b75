use Rattle.std.proofs.Common.{ap, ◌∙◌}
use Rattle.std.specs.Prelude.{Option, Some}
use Rattle.clap.specs.Lexer.{usize_max}
use Rattle.clap.specs.declared.builder.arg.Arg.{Arg}
use Rattle.clap.specs.declared.builder.range.ValueRange.{ValueRange}
use Rattle.clap.specs.Walk.{Rule, rule_of}
use Rattle.receiver_options.proofs.CommandLineLemmas.{some-is}
use Rattle.receiver_options.proofs.command.script.Goals as goal

abbrev any_number : Option ValueRange
any_number = Some (record { start_inclusive = 0; end_inclusive = usize_max })

pub returns-clause-rule : goal.returns-clause-rule
returns-clause-rule c =
    let range = some-is c.num_args.result.num_vals _ c.num_args.ensures.1 in
    ap rule_of c.help.ensures ∙ ap rule_of c.num_args.ensures.0
    ∙ ap (λ n. rule_of (record c.value_name.result { num_vals = n })) range
    ∙ ap (λ (a : Arg). rule_of (record a { num_vals = any_number })) c.value_name.ensures
    ∙ ap (λ (r : Rule). record r { value_names = 1; range = any_number }) c.new.ensures.rule
