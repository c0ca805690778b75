use Rattle.definitions.proofs.LaterLemmas.{more-later}
use Rattle.definitions.proofs.more_samples_emit_later.Goals as goal

pub returns : goal.returns
returns c = more-later
