use Rattle.std.proofs.Common.{refl, rules}
use Rattle.receiver.proofs.running.answer.Goals as goal

pub returns-in-Err : goal.returns-in-Err
returns-in-Err c = rw c.in-Err.is refl

pub returns-in-Ok-ReadFailed : goal.returns-in-Ok-ReadFailed
returns-in-Ok-ReadFailed c = search rules
