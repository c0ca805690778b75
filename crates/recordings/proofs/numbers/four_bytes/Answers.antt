use Rattle.std.proofs.Common.{rules}
use Rattle.recordings.proofs.numbers.four_bytes.Goals as goal

pub returns : goal.returns
returns c = search rules
