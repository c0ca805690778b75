use Rattle.definitions.proofs.DistinctLemmas.{are-distinct}
use Rattle.definitions.proofs.printed.lines_are_distinct.Goals as goal

pub returns : goal.returns
returns c = are-distinct
