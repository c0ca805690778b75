use Rattle.std.proofs.Common.{rules}
use Rattle.oscillators.proofs.code.CodeOsc.new.Goals as goal

pub returns : goal.returns
returns c = search rules
