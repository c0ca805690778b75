use Rattle.definitions.proofs.EmissionLemmas.{come-with-subframes}
use Rattle.definitions.proofs.reports.reports_come_with_subframes.Goals as goal

pub returns : goal.returns
returns c = come-with-subframes
