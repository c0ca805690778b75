use Rattle.definitions.proofs.PrintedVerbLemmas.{acquisitions-printed}
use Rattle.definitions.proofs.printed.printed_acquisitions_name_the_greatest.Goals as goal

pub returns : goal.returns
returns c = acquisitions-printed
