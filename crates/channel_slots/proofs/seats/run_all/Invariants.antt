use Rattle.std.proofs.Common.{◌≡◌, ◌≤◌, ◌<◌, ◌+◌, ◌*◌, take, drop, length}
use Rattle.channels.specs.Windows.{IsSame, end_of}
use Rattle.channel_slots.specs.declared.slot.TheConstants.{SLOT_EVENTS}
use Rattle.channel_slots.specs.Banks.{RunsAll, AllRest}
use Rattle.channel_slots.specs.Timelines.{events_in}
use Rattle.channel_slots.proofs.seats.run_all.Given as goal

abbrev pub invariant-loop-seat : goal.invariant-loop-seat
invariant-loop-seat l = record {
  rest : drop l.seat-index l.seats ≡ drop l.seat-index l.fn.seats;
  runs : RunsAll l.fn.window (take l.seat-index l.fn.seats) (take l.seat-index l.seats)
      (events_in l.fn.timeline) (events_in l.timeline);
  all_rest : AllRest l.earliest (take l.seat-index l.seats);
  later : end_of l.fn.window < l.earliest;
  fits : length (events_in l.timeline)
      ≤ length (events_in l.fn.timeline) + SLOT_EVENTS * l.seat-index;
  same : IsSame l.fn.window l.window;
}
