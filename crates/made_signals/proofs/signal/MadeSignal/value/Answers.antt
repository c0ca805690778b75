use Rattle.std.proofs.Common.{rules}
use Rattle.made_signals.proofs.signal.MadeSignal.value.Goals as goal

pub returns-then-is_below : goal.returns-then-is_below
returns-then-is_below c = search rules
