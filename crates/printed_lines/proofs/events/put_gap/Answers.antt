use Rattle.printed_lines.proofs.LineLemmas.{gap-text}
use Rattle.std.proofs.Common.{◌∙◌}
use Rattle.printed_lines.proofs.events.put_gap.Goals as goal

pub returns-clause-text : goal.returns-clause-text
returns-clause-text c =
    rw c.kind.ensures.text at c.number.ensures.text
    ∙ gap-text c.args.line.now c.args.slot c.args.bits
