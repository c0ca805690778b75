use Rattle.std.proofs.Common.{◌∙◌, FitsSigned, w32, w64, rules, arith}
use Rattle.std.proofs.lemmas.Int.{to_z-of_z, ints}
use Rattle.acquisition.specs.Cells.{cell_in}
use Rattle.printed_lines.proofs.LineLemmas.{acquired-text}
use Rattle.printed_lines.proofs.events.put_acquired.Goals as goal

pub returns-clause-text : goal.returns-clause-text
returns-clause-text c =
    let bin : FitsSigned w32 c.args.cell.now.bin = search rules in
    let wide : FitsSigned w64 c.args.cell.now.bin = search (rules, arith, ints) in
    rw (
      c.number-2.ensures.text,
      c.into-3.ensures,
      c.get.ensures.same,
      c.signed.ensures.text,
      c.into-2.ensures,
      to_z-of_z w32 c.args.cell.now.bin bin,
      to_z-of_z w64 c.args.cell.now.bin wide,
      c.word.ensures.text,
      c.word_of.ensures.word,
      c.number.ensures.text,
      c.into.ensures,
      c.kind.ensures.text,
    ) at c.number-3.ensures.text
    ∙ acquired-text c.args.line.now c.args.slot c.args.prn (cell_in c.args.cell.now)
