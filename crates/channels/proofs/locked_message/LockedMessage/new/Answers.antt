use Rattle.channels.proofs.LockedLemmas.{not-locked}
use Rattle.channels.proofs.locked_message.LockedMessage.new.Goals as goal

pub returns-clause-stands : goal.returns-clause-stands
returns-clause-stands c = not-locked
