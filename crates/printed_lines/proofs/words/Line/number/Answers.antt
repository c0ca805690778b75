use Rattle.std.proofs.Common.{arith, rules}
use Rattle.printed_lines.proofs.RoomLemmas.{number-length}
use Rattle.printed_lines.proofs.words.Line.number.Goals as goal

pub push_decimal-requires : goal.push_decimal-requires
push_decimal-requires c =
    let short = number-length c.args.n c.ranges.n.fits in
    record { room = search (rules, arith) }

pub returns-clause-longer : goal.returns-clause-longer
returns-clause-longer c =
    let short = number-length c.args.n c.ranges.n.fits in search (rules, arith)
