use Rattle.std.proofs.Common.{rules}
use Rattle.recordings.proofs.choice.Choice.quadrature.Goals as goal

pub returns : goal.returns
returns c = search rules
