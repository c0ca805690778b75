use Rattle.std.proofs.Common.{arith}
use Rattle.channels.proofs.window.Window.place.Goals as goal

pub returns-clause-place : goal.returns-clause-place
returns-clause-place c = omega (arith, c.requires.open)
