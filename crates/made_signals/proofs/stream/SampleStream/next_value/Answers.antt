use Rattle.std.proofs.Common.{rules}
use Rattle.made_signals.proofs.stream.SampleStream.next_value.Goals as goal

pub returns-else-is_noisy : goal.returns-else-is_noisy
returns-else-is_noisy c = search rules
