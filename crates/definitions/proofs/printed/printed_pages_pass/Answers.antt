use Rattle.definitions.proofs.PrintedVerbLemmas.{pages-printed}
use Rattle.definitions.proofs.printed.printed_pages_pass.Goals as goal

pub returns : goal.returns
returns c = pages-printed
