use Rattle.definitions.proofs.EmissionLemmas.{reported-pages}
use Rattle.definitions.proofs.reports.pages_are_reported.Goals as goal

pub returns : goal.returns
returns c = reported-pages
