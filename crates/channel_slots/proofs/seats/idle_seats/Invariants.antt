use Rattle.std.proofs.Common.{◌≡◌, take}
use Rattle.definitions.specs.Banks.{layout}
use Rattle.channel_slots.specs.Banks.{keys_of, AllIdle}
use Rattle.channel_slots.proofs.seats.idle_seats.Given as goal

abbrev pub invariant-loop-index : goal.invariant-loop-index
invariant-loop-index l = record {
  keys : keys_of l.seats.items ≡ layout (take l.index l.shares);
  idle : AllIdle l.seats.items;
}
