use Rattle.std.proofs.Common.{◌≡◌, map, take, length}
use Rattle.definitions.specs.Receiver.{entries_of}
use Rattle.receiver.specs.Clients.{clients_with}
use Rattle.receiver.specs.Queues.{left_of}
use Rattle.receiver.proofs.queues.queues_of.Given as goal

abbrev pub invariant-loop-index : goal.invariant-loop-index
invariant-loop-index l = record {
  entries : map left_of l.queues.items
      ≡ take l.index
      (map entries_of (clients_with l.shares (map (λ script. script.now) l.scripts)));
  many : length l.queues.items ≡ l.index;
}
