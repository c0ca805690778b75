use Rattle.printed_lines.proofs.LineLemmas.{subframe-text}
use Rattle.std.proofs.Common.{◌∙◌}
use Rattle.printed_lines.proofs.subframe_words.put_subframe.Goals as goal

pub returns-clause-text : goal.returns-clause-text
returns-clause-text c =
    rw (
      c.number-2.ensures.text,
      c.into-2.ensures,
      c.tow.ensures.tow,
      c.number.ensures.text,
      c.into.ensures,
      c.id.ensures.id,
      c.kind.ensures.text,
    ) at c.put_words.ensures.text
    ∙ subframe-text c.args.line.now c.args.slot c.args.subframe.now
