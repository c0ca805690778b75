use Rattle.definitions.proofs.EmissionLemmas.{reported-ephemerides}
use Rattle.definitions.proofs.reports.ephemerides_are_reported.Goals as goal

pub returns : goal.returns
returns c = reported-ephemerides
