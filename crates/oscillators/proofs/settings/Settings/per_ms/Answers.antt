use Rattle.std.proofs.Common.{rules}
use Rattle.oscillators.proofs.settings.Settings.per_ms.Goals as goal

pub returns-clause-value : goal.returns-clause-value
returns-clause-value c = search rules
