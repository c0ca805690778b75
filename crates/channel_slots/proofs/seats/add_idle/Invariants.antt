use Rattle.channel_slots.specs.Banks.{AddsIdle}
use Rattle.channel_slots.proofs.seats.add_idle.Given as goal

abbrev pub invariant-loop-number : goal.invariant-loop-number
invariant-loop-number l = record {
  adds : AddsIdle l.client l.number l.fn.seats.items l.seats.items;
}
