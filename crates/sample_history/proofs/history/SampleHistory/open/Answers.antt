use Rattle.std.proofs.Common.{rules}
use Rattle.sample_history.proofs.history.SampleHistory.open.Goals as goal

pub returns-clause-room : goal.returns-clause-room
returns-clause-room c = search rules
