use Rattle.std.proofs.Common.{rules}
use Rattle.oscillators.proofs.settings.Settings.format.Goals as goal

pub returns : goal.returns
returns c = search rules
