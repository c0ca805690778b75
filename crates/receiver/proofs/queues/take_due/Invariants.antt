use Rattle.std.proofs.Common.{◌≡◌, take}
use Rattle.std.specs.List.{AllByRecursion}
use Rattle.receiver.specs.declared.queue.Queue.{Queue}
use Rattle.receiver.specs.Queues.{NoneDue, left_of}
use Rattle.receiver.proofs.queues.take_due.Given as goal

abbrev pub invariant-loop-index : goal.invariant-loop-index
invariant-loop-index l = record {
  same : l.queues ≡ l.fn.queues;
  early : AllByRecursion (λ (queue : Queue). NoneDue l.now (left_of queue)) (take l.index l.queues);
}
