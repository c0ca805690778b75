use Rattle.std.proofs.Common.{rules}
use Rattle.recordings.proofs.recipe.Recipe.table.Goals as goal

pub loop-byte-preserved : goal.loop-byte-preserved
loop-byte-preserved c = search rules
