use Rattle.std.proofs.Common.{rules}
use Rattle.oscillators.proofs.code.CodeOsc.words.Goals as goal

pub returns-clause-now : goal.returns-clause-now
returns-clause-now c = search rules
