use Rattle.definitions.proofs.EmissionLemmas.{reported-almanacs}
use Rattle.definitions.proofs.reports.almanac_sets_are_reported.Goals as goal

pub returns : goal.returns
returns c = reported-almanacs
