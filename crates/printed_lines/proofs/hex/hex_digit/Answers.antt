use Rattle.std.proofs.Common.{rules}
use Rattle.printed_lines.proofs.hex.hex_digit.Goals as goal

pub returns-else-n-lt10 : goal.returns-else-n-lt10
returns-else-n-lt10 c = search rules
