use Rattle.std.proofs.Common.{rules}
use Rattle.recordings.proofs.part.PartRecipe.sign.Goals as goal

pub returns-then-value-self-2-clause-value : goal.returns-then-value-self-2-clause-value
returns-then-value-self-2-clause-value c = search rules
