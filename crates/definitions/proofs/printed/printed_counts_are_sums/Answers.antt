use Rattle.definitions.proofs.PrintedVerbLemmas.{counts-printed}
use Rattle.definitions.proofs.printed.printed_counts_are_sums.Goals as goal

pub returns : goal.returns
returns c = counts-printed
