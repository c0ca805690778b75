use Rattle.seldomplough.proofs.AnswerLemmas.{state-asks}
use Rattle.seldomplough.proofs.receiver.Receiver.state.Goals as goal

pub returns : goal.returns
returns c = state-asks _ _ _ _ _ _ c.shown.ensures c.command.ensures
