use Rattle.definitions.proofs.OnlyDumpLemmas.{no-others}
use Rattle.definitions.proofs.slots.no_other_dumps.Goals as goal

pub returns : goal.returns
returns c = no-others
