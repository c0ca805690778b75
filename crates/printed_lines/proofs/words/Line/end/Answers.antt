use Rattle.std.proofs.Common.{rules}
use Rattle.printed_lines.proofs.words.Line.end.Goals as goal

pub returns : goal.returns
returns c = search rules
