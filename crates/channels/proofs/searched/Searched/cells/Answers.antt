use Rattle.std.proofs.Common.{rules}
use Rattle.channels.proofs.searched.Searched.cells.Goals as goal

pub returns : goal.returns
returns c = search rules
