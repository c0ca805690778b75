use Rattle.std.proofs.Common.{◌≡◌, ◌≤◌, drop}
use Rattle.std.specs.Prelude.{min}
use Rattle.receiver.specs.Queues.{least_gap_of}
use Rattle.receiver.proofs.queues.least_gap.Given as goal

abbrev pub invariant-loop-queue : goal.invariant-loop-queue
invariant-loop-queue l = record {
  rest : min l.least (least_gap_of l.now (drop l.queue-index l.queues))
      ≡ least_gap_of l.now l.queues;
  small : l.least ≤ 18446744073709551615;
}
