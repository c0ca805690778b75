use Rattle.std.proofs.Common.{◌≡◌, length}
use Rattle.recordings.proofs.recipe.Recipe.measure.Given as goal

abbrev pub invariant-loop-n : goal.invariant-loop-n
invariant-loop-n l = length l.shares ≡ 4
