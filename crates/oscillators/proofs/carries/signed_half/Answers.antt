use Rattle.std.proofs.Common.{rules}
use Rattle.oscillators.proofs.carries.signed_half.Goals as goal

pub returns : goal.returns
returns c = search rules
