use Rattle.definitions.proofs.TurnLemmas.{no-error}
use Rattle.definitions.proofs.loops.data_bits_are_no_error.Goals as goal

pub returns : goal.returns
returns c = no-error
