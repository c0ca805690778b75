use Rattle.std.proofs.Common.{rules}
use Rattle.oscillators.proofs.code.CodeOsc.phase.Goals as goal

pub returns-clause-value : goal.returns-clause-value
returns-clause-value c = search rules
