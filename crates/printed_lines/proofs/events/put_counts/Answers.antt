use Rattle.std.proofs.Common.{FitsSigned, w32, w64, rules, arith}
use Rattle.std.proofs.lemmas.Int.{to_z-of_z, ints}
use Rattle.printed_lines.proofs.LineLemmas.{count-text}
use Rattle.lane_correlator.specs.Counting.{counts_in}
use Rattle.printed_lines.proofs.events.put_counts.Goals as goal

pub returns-clause-text : goal.returns-clause-text
returns-clause-text c =
    let counts = c.args.counts in
    let ie : FitsSigned w32 c.args.counts.ie = search rules in
    let qe : FitsSigned w32 c.args.counts.qe = search rules in
    let ip : FitsSigned w32 c.args.counts.ip = search rules in
    let qp : FitsSigned w32 c.args.counts.qp = search rules in
    let il : FitsSigned w32 c.args.counts.il = search rules in
    let ql : FitsSigned w32 c.args.counts.ql = search rules in
    let ie-wide : FitsSigned w64 c.args.counts.ie = search (rules, arith, ints) in
    let qe-wide : FitsSigned w64 c.args.counts.qe = search (rules, arith, ints) in
    let ip-wide : FitsSigned w64 c.args.counts.ip = search (rules, arith, ints) in
    let qp-wide : FitsSigned w64 c.args.counts.qp = search (rules, arith, ints) in
    let il-wide : FitsSigned w64 c.args.counts.il = search (rules, arith, ints) in
    let ql-wide : FitsSigned w64 c.args.counts.ql = search (rules, arith, ints) in
    rw (
      c.signed-6.ensures.text,
      c.into-6.ensures,
      c.signed-5.ensures.text,
      c.into-5.ensures,
      c.signed-4.ensures.text,
      c.into-4.ensures,
      c.signed-3.ensures.text,
      c.into-3.ensures,
      c.signed-2.ensures.text,
      c.into-2.ensures,
      c.signed.ensures.text,
      c.into.ensures,
      c.kind.ensures.text,
      to_z-of_z w32 counts.ie ie,
      to_z-of_z w64 counts.ie ie-wide,
      to_z-of_z w32 counts.qe qe,
      to_z-of_z w64 counts.qe qe-wide,
      to_z-of_z w32 counts.ip ip,
      to_z-of_z w64 counts.ip ip-wide,
      to_z-of_z w32 counts.qp qp,
      to_z-of_z w64 counts.qp qp-wide,
      to_z-of_z w32 counts.il il,
      to_z-of_z w64 counts.il il-wide,
      to_z-of_z w32 counts.ql ql,
      to_z-of_z w64 counts.ql ql-wide,
    )
    (count-text c.args.line.now c.args.slot (counts_in counts))
