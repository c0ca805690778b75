use Rattle.std.proofs.Common.{◌≡◌, ◌≤◌, ◌+◌, ◌*◌, drop}
use Rattle.slot_protocol.specs.declared.command.TheConstants.{MOST_SLOTS}
use Rattle.channel_slots.specs.Banks.{total}
use Rattle.channel_slots.proofs.seats.slots_in.Given as goal

abbrev pub invariant-loop-share : goal.invariant-loop-share
invariant-loop-share l = record {
  rest : l.slots + total (drop l.share-index l.shares) ≡ total l.shares;
  small : l.slots ≤ MOST_SLOTS * l.share-index;
}
