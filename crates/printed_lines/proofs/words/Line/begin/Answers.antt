use Rattle.std.proofs.Common.{◌≤◌, length, arith, rules}
use Rattle.std.specs.Fmt.{decimal}
use Rattle.printed_lines.proofs.RoomLemmas.{byte-length}
use Rattle.printed_lines.proofs.words.Line.begin.Goals as goal

pub push_decimal-requires : goal.push_decimal-requires
push_decimal-requires c =
    let short = byte-length c.args.client c.ranges.client.fits in
    record { room = rw c.into.ensures (search (rules, arith)) }

pub number-requires : goal.number-requires
number-requires c =
    let short : length (decimal c.into.result) ≤ 3 =
    rw c.into.ensures (byte-length c.args.client c.ranges.client.fits) in
    record { room = search (rules, arith) }

pub returns-clause-short : goal.returns-clause-short
returns-clause-short c =
    let short : length (decimal c.into.result) ≤ 3 =
    rw c.into.ensures (byte-length c.args.client c.ranges.client.fits) in
    search (rules, arith)
