use Rattle.std.proofs.Common.{◌≤◌, ◌+◌, ◌-◌, length}
use Rattle.channels.specs.Windows.{IsSame}
use Rattle.channel_slots.specs.Slots.{next_event, chances}
use Rattle.channel_slots.specs.Timelines.{events_in}
use Rattle.channel_slots.specs.declared.slot.TheConstants.{SLOT_EVENTS}
use Rattle.channel_slots.proofs.GoesLemmas.{HasGone}
use Rattle.channel_slots.proofs.seat.Seat.run.Given as goal

abbrev pub invariant-loop-self : goal.invariant-loop-self
invariant-loop-self l = record {
  goes : HasGone l.fn.window l.fn.self l.self (events_in l.fn.timeline) (events_in l.timeline);
  few : length (events_in l.timeline) ≤ length (events_in l.fn.timeline) + SLOT_EVENTS;
  room : next_event l.self.slot ≤ l.end
      → length (events_in l.timeline) + chances l.self.slot
      ≤ length (events_in l.fn.timeline) + SLOT_EVENTS;
  same : IsSame l.fn.window l.window;
}

abbrev pub decreases-loop-self : goal.decreases-loop-self
decreases-loop-self l = l.end + 1 - next_event l.self.slot
