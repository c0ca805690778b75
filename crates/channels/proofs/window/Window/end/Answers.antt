use Rattle.std.proofs.Common.{rules}
use Rattle.channels.proofs.window.Window.end.Goals as goal

pub returns : goal.returns
returns c = search rules
