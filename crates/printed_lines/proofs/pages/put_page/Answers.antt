use Rattle.std.proofs.Common.{◌∷◌, ℤ, List, ◌∙◌}
use Rattle.std.proofs.Math.Path.{ap₂}
use Rattle.std.specs.Fmt.{decimal}
use Rattle.definitions.specs.Fields.{Field}
use Rattle.definitions.specs.Texts.{field_texts, words_text}
use Rattle.data_sets.specs.Reports.{fields_in, report_in, numbers_in}
use Rattle.printed_lines.proofs.LineLemmas.{kind-text}
use Rattle.printed_lines.proofs.FieldLemmas.{fields-words}
use Rattle.printed_lines.proofs.pages.put_page.Goals as goal

pub returns-clause-text : goal.returns-clause-text
returns-clause-text c =
    rw c.kind.ensures.text at c.put_fields.ensures.text
    ∙ kind-text c.args.line.now c.args.kind.now c.args.slot _
    (field_texts (fields_in (report_in c.args.report.now)) (numbers_in (report_in
    c.args.report.now)))
    (fields-words (decimal c.args.slot) c.fields.result.now c.values.result.now
    ∙ ap₂ (λ (fs : List Field) (ns : List ℤ). words_text (decimal c.args.slot ∷ field_texts fs ns))
    c.fields.ensures c.values.ensures.numbers)
