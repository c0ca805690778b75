use Rattle.definitions.proofs.PrintedVerbLemmas.{almanacs-printed}
use Rattle.definitions.proofs.printed.printed_almanacs_agree.Goals as goal

pub returns : goal.returns
returns c = almanacs-printed
