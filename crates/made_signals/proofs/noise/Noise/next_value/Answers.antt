use Rattle.std.proofs.Common.{rules}
use Rattle.made_signals.proofs.noise.Noise.next_value.Goals as goal

pub returns-in-1 : goal.returns-in-1
returns-in-1 c = search rules
