use Rattle.definitions.proofs.TurnLemmas.{no-turn}
use Rattle.definitions.proofs.loops.common_phase_is_no_turn.Goals as goal

pub returns : goal.returns
returns c = no-turn
