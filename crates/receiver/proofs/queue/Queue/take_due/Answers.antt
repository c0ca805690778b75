use Rattle.std.proofs.Common.{rules}
use Rattle.receiver.proofs.queue.Queue.take_due.Goals as goal

pub returns-clause-due : goal.returns-clause-due
returns-clause-due c = search rules
