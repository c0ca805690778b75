use Rattle.std.proofs.Common.{◌≤◌, length, arith, ap, ◌∙◌, ◌++◌, pos, get_or}
use Rattle.std.proofs.Common.{FitsSigned, w64, rules}
use Rattle.std.specs.Prelude.{zip}
use Rattle.std.proofs.lemmas.Int.{to_z-of_z}
use Rattle.std.proofs.lemmas.List.{take_all}
use Rattle.std.proofs.lemmas.Slice.Zip.{length-zip}
use Rattle.definitions.specs.Texts.{field_text}
use Rattle.subframes.specs.Entries.{entry_of}
use Rattle.printed_lines.specs.SpacedWords.{with_spaces}
use Rattle.printed_lines.proofs.FieldLemmas.{more-fields}
use Rattle.printed_lines.proofs.pages.put_fields.Goals as goal

pub loop-i-preserved : goal.loop-i-preserved
loop-i-preserved c =
    let fits : FitsSigned w64 (get_or c.args.values.now c.loop-i.i (pos 0)) = search rules in
    record {
      text =
          rw (to_z-of_z w64 _ fits) at c.put_field.ensures.text
          ∙ more-fields c.args.line.now c.loop-i.line c.args.fields.now c.args.values.now c.loop-i.i
          _ _ c.loop-i-test.true c.requires.one_each c.loop-i.invariant.text;
      longer = omega (arith, c.put_field.ensures.longer, c.loop-i.invariant.longer);
    }

pub returns-clause-text : goal.returns-clause-text
returns-clause-text c =
    let all : length (zip c.args.fields.now c.args.values.now) ≤ c.loop-i.i =
    omega (arith, length-zip c.args.fields.now c.args.values.now, c.loop-i-test.false) in
    c.loop-i.invariant.text
    ∙ ap (λ pairs. c.args.line.now
    ++ with_spaces (λ (field, value). field_text (entry_of field) value) pairs)
    (take_all c.loop-i.i (zip c.args.fields.now c.args.values.now) all)
