use Rattle.std.proofs.Common.{arith}
use Rattle.channel_slots.specs.declared.seat.Seat.{Seat}
use Rattle.channel_slots.specs.Slots.{IsReadyIn}
use Rattle.channels.specs.declared.window.Window.{Window}
use Rattle.channels.specs.Windows.{end_of}
use Rattle.channel_slots.proofs.SeatLemmas.{runs-more, rest-more, one-of}
use Rattle.channel_slots.specs.Timelines.{events_in}
use Rattle.channel_slots.proofs.RestLemmas.{all-rest-runs, rests-more}
use Rattle.channel_slots.proofs.StayLemmas.{same-again, goes-as}
use Rattle.channel_slots.proofs.seats.run_all.Goals as goal

pub run-requires-clause-ready : goal.run-requires-clause-ready
run-requires-clause-ready c =
    let same = c.loop-seat.invariant.same in
    let w : Window = c.args.window.now in
    rw (same.first, same.history)
    (one-of (λ (p : Seat). IsReadyIn w (end_of w) p.slot) c.args.seats.now
    c.loop-seat.seats c.loop-seat.seat-index c.seat-item.result c.loop-seat-test.true
    c.loop-seat.invariant.rest c.requires.ready)

pub loop-seat-preserved : goal.loop-seat-preserved
loop-seat-preserved c =
    let loop = c.loop-seat.invariant in
    record {
      rest =
          rest-more c.args.seats.now c.loop-seat.seats c.loop-seat.seat-index c.run.new.self
          loop.rest;
      runs =
          runs-more c.args.window.now c.args.seats.now c.loop-seat.seats
          c.loop-seat.seat-index c.seat-item.result c.run.new.self (events_in c.args.timeline.now)
          (events_in c.loop-seat.timeline) (events_in c.run.new.timeline) c.loop-seat-test.true
          (omega (arith, c.loop-seat-test.true, c.loop-seat.auto.seats))
          loop.rest (goes-as c.args.window.now c.loop-seat.window _ _ _ _ loop.same
          c.run.ensures.goes) loop.runs;
      all_rest =
          rests-more c.loop-seat.earliest _ c.loop-seat.seats c.loop-seat.seat-index
          c.run.new.self (omega (arith, c.loop-seat-test.true, c.loop-seat.auto.seats))
          (omega (arith, c.min-earliest.ensures))
          (omega (arith, c.min-earliest.ensures, c.next_event.ensures.value))
          loop.all_rest;
      later = omega (
        arith,
        loop.later,
        loop.same.end,
        c.run.ensures.rests,
        c.min-earliest.ensures,
        c.next_event.ensures.value,
      );
      fits = omega (arith, loop.fits, c.run.ensures.goes.few);
      same = same-again c.args.window.now c.loop-seat.window _ loop.same c.run.ensures.same;
    }

pub returns-then-end-next_event-clause-runs : goal.returns-then-end-next_event-clause-runs
returns-then-end-next_event-clause-runs c =
    all-rest-runs c.args.window.now c.args.next_event c.args.seats.now
    (events_in c.args.timeline.now) c.requires.rest
    (omega (arith, c.if-end-next_event.true, c.end.ensures))
