use Rattle.definitions.proofs.BehindLockLemmas.{pushes-behind}
use Rattle.definitions.proofs.slots.pushes_are_after_lock.Goals as goal

pub returns : goal.returns
returns c = pushes-behind
