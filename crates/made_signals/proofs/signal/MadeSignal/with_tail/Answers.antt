use Rattle.std.proofs.Common.{rules}
use Rattle.made_signals.proofs.signal.MadeSignal.with_tail.Goals as goal

pub returns-clause-start : goal.returns-clause-start
returns-clause-start c = search rules

pub returns-clause-sampling : goal.returns-clause-sampling
returns-clause-sampling c = search rules
