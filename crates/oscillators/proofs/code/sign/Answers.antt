use Rattle.std.proofs.Common.{rules}
use Rattle.oscillators.proofs.code.sign.Goals as goal

pub returns-then-chip-eq0-clause-value : goal.returns-then-chip-eq0-clause-value
returns-then-chip-eq0-clause-value c = search rules
