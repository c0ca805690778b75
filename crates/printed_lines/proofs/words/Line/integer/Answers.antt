use Rattle.std.proofs.Common.{◌≤◌, ◌^◌, arith, rules}
use Rattle.std.proofs.lemmas.Int.{ints}
use Rattle.printed_lines.proofs.RoomLemmas.{integer-length}
use Rattle.printed_lines.proofs.words.Line.integer.Goals as goal
use Rattle.printed_lines.proofs.words.Line.integer.Goals.{then-z-lt0, else-z-lt0}

pub push_decimal-requires : goal.push_decimal-requires
push_decimal-requires c =
    let size : c.unsigned_abs.result ≤ 2 ^ 63 = search (rules, arith, ints) in
    let short = integer-length c.unsigned_abs.result size in
    elim c.if-z-lt0.branch [
      | then-z-lt0 w ↦ record { room = search (rules, arith) }
      | else-z-lt0 w ↦ record { room = search (rules, arith) }
    ]

pub returns-clause-longer : goal.returns-clause-longer
returns-clause-longer c =
    let size : c.unsigned_abs.result ≤ 2 ^ 63 = search (rules, arith, ints) in
    let short = integer-length c.unsigned_abs.result size in
    elim c.if-z-lt0.branch [
      | then-z-lt0 w ↦ search (rules, arith)
      | else-z-lt0 w ↦ search (rules, arith)
    ]
