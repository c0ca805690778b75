use Rattle.std.proofs.Common.{rules}
use Rattle.subframes.proofs.almanac.AlmanacField.layout.Goals as goal

pub returns-in-Af0-clause-entry : goal.returns-in-Af0-clause-entry
returns-in-Af0-clause-entry c = search rules
