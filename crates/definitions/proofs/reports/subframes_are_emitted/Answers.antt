use Rattle.definitions.proofs.EmissionLemmas.{emitted-subframes}
use Rattle.definitions.proofs.reports.subframes_are_emitted.Goals as goal

pub returns : goal.returns
returns c = emitted-subframes
