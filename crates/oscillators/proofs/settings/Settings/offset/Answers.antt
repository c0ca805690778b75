use Rattle.std.proofs.Common.{rules}
use Rattle.oscillators.proofs.settings.Settings.offset.Goals as goal

pub returns-clause-same : goal.returns-clause-same
returns-clause-same c = search rules
