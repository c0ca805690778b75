use Rattle.definitions.proofs.ReportLemmas.{is-almanac_set}
use Rattle.definitions.proofs.slots.almanac_sets_agree.Goals as goal

pub returns : goal.returns
returns c = is-almanac_set
