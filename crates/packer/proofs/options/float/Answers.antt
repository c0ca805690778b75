use Rattle.std.proofs.Common.{rules}
use Rattle.packer.proofs.options.float.Goals as goal

pub returns-else-is_below_zero-clause-value : goal.returns-else-is_below_zero-clause-value
returns-else-is_below_zero-clause-value c = search rules
