use Rattle.definitions.proofs.PrintedLemmas.{lines-come}
use Rattle.definitions.proofs.printed.lines_come_from_events.Goals as goal

pub returns : goal.returns
returns c = lines-come
