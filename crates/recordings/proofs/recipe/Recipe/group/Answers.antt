use Rattle.std.proofs.Common.{rules}
use Rattle.recordings.proofs.recipe.Recipe.group.Goals as goal

pub returns-clause-value : goal.returns-clause-value
returns-clause-value c = search rules
