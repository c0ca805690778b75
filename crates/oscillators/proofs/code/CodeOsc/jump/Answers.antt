use Rattle.std.proofs.Common.{rules}
use Rattle.oscillators.proofs.code.CodeOsc.jump.Goals as goal

pub invariant_of-self : goal.invariant_of-self
invariant_of-self c = search rules
