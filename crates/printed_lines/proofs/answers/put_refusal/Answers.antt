use Rattle.printed_lines.proofs.LineLemmas.{refusal-text}
use Rattle.std.proofs.Common.{◌∙◌}
use Rattle.printed_lines.proofs.answers.put_refusal.Goals as goal

pub returns-clause-text : goal.returns-clause-text
returns-clause-text c =
    rw (c.word.ensures.text, c.into.ensures) at c.number.ensures.text
    ∙ refusal-text c.args.line.now c.args.number
