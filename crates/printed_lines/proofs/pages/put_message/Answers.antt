use Rattle.printed_lines.proofs.LineLemmas.{message-text}
use Rattle.std.proofs.Common.{◌∙◌}
use Rattle.printed_lines.proofs.pages.put_message.Goals as goal

pub returns-clause-text : goal.returns-clause-text
returns-clause-text c =
    rw (c.text.ensures.text, c.kind.ensures.text) at c.put_characters.ensures.text
    ∙ message-text c.args.line.now c.args.slot c.args.characters.now
