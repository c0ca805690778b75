use Rattle.std.proofs.Common.{refl}
use Rattle.channels.proofs.window.Window.has_room.Goals as goal

pub returns : goal.returns
returns c = rw c.end.ensures refl
