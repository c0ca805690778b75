use Rattle.printed_lines.proofs.LineLemmas.{almanacs-text}
use Rattle.std.proofs.Common.{◌∙◌, FitsSigned, w64, rules}
use Rattle.std.proofs.lemmas.Int.{to_z-of_z}
use Rattle.data_sets.specs.Reports.{almanacs_in}
use Rattle.printed_lines.proofs.almanacs.put_almanacs.Goals as goal

pub returns-clause-text : goal.returns-clause-text
returns-clause-text c =
    let toa : FitsSigned w64 c.args.set.now.toa = search rules in
    rw (
      c.text-2.ensures.text,
      c.integer.ensures.text,
      to_z-of_z w64 c.args.set.now.toa toa,
      c.text.ensures.text,
      c.kind.ensures.text,
    ) at c.put_health.ensures.text
    ∙ almanacs-text c.args.line.now c.args.slot (almanacs_in c.args.set.now)
