use Rattle.std.proofs.Common.{◌≡◌, take, drop}
use Rattle.channels.specs.Windows.{IsSame}
use Rattle.channel_slots.specs.Banks.{PassAll}
use Rattle.channel_slots.proofs.seats.pass_all.Given as goal

abbrev pub invariant-loop-seat : goal.invariant-loop-seat
invariant-loop-seat l = record {
  rest : drop l.seat-index l.seats ≡ drop l.seat-index l.fn.seats;
  passes : PassAll l.fn.window (take l.seat-index l.fn.seats) (take l.seat-index l.seats);
  same : IsSame l.fn.window l.window;
}
