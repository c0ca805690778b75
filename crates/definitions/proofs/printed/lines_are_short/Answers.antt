use Rattle.definitions.proofs.ShortLemmas.{lines-short}
use Rattle.definitions.proofs.printed.lines_are_short.Goals as goal

pub returns : goal.returns
returns c = lines-short
