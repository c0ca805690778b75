use Rattle.std.proofs.Common.{◌≡◌, ◌≤◌, ◌<◌, ℕ, arith, refl, ◌∙◌, sym, get_or}
use Rattle.std.proofs.lemmas.List.{take_all}
use Rattle.channels.specs.declared.window.Window.{Window}
use Rattle.channels.specs.Windows.{end_of}
use Rattle.channel_slots.specs.declared.seat.Seat.{Seat}
use Rattle.channel_slots.specs.Slots.{IsReadyIn, next_event}
use Rattle.channel_slots.proofs.SeatLemmas.{passes-more, rest-more, one-of}
use Rattle.channel_slots.proofs.StayLemmas.{same-again, passes-as, no-news}
use Rattle.channel_slots.proofs.seats.pass_all.Goals as goal

pub loop-seat-init : goal.loop-seat-init
loop-seat-init c = record {
  rest = refl;
  passes = refl;
  same = record { first = refl; end = refl; history = refl; stands = λ xs s. s };
}

pub take-requires-clause-taken : goal.take-requires-clause-taken
take-requires-clause-taken c = omega (arith, c.end-end.ensures, c.loop-seat.invariant.same.end)

pub take-requires-clause-ready : goal.take-requires-clause-ready
take-requires-clause-ready c =
    let same = c.loop-seat.invariant.same in
    let w : Window = c.args.window.now in
    rw (same.first, same.history, c.end-end.ensures)
    (one-of (λ (p : Seat). IsReadyIn w (end_of w) p.slot) c.args.seats.now
    c.loop-seat.seats c.loop-seat.seat-index c.seat-item.result c.loop-seat-test.true
    c.loop-seat.invariant.rest c.requires.ready)

pub loop-seat-preserved : goal.loop-seat-preserved
loop-seat-preserved c =
    let loop = c.loop-seat.invariant in
    let first : Window = c.args.window.now in
    let old : Window = c.loop-seat.window in
    let next : ℕ = c.requires.rest.0 in
    let p : Seat = get_or c.loop-seat.seats c.loop-seat.seat-index c.seat-item.result in
    let rests : next ≤ next_event p.slot =
    one-of (λ (p : Seat). next ≤ next_event p.slot) c.args.seats.now c.loop-seat.seats
    c.loop-seat.seat-index c.seat-item.result c.loop-seat-test.true loop.rest
    c.requires.rest.2 in
    let early : c.end-end.result < next_event p.slot =
    omega (arith, rests, c.requires.rest.1, c.end-end.ensures) in
    let here : c.end-end.result ≡ end_of old = c.end-end.ensures ∙ sym loop.same.end in
    let none = no-news c.take.result c.end-end.result (next_event p.slot) early
    c.take.ensures.later c.take.ensures.within in
    record {
      rest = rest-more c.args.seats.now c.loop-seat.seats c.loop-seat.seat-index _ loop.rest;
      passes = passes-more first c.args.seats.now c.loop-seat.seats c.loop-seat.seat-index
          c.seat-item.result _ c.loop-seat-test.true
          (omega (arith, c.loop-seat-test.true, c.loop-seat.auto.seats)) loop.rest
          (passes-as first old p _ loop.same (record {
            client = refl;
            number = refl;
            next = c.take.ensures.waits early;
            ready = λ _. rw here at (c.take.ensures.all_taken none);
            stands = λ settings xs commands now over s.
                c.take.ensures.passes settings xs commands (now ∙ sym here) over s;
          })) loop.passes;
      same = same-again first old c.take.new.window loop.same c.take.ensures.same;
    }

pub returns-clause-passes : goal.returns-clause-passes
returns-clause-passes c =
    rw (
      take_all c.loop-seat.seat-index c.args.seats.now c.loop-seat-test.false,
      take_all c.loop-seat.seat-index c.loop-seat.seats
          (omega (arith, c.loop-seat-test.false, c.loop-seat.auto.seats)),
    ) at c.loop-seat.invariant.passes

pub returns-clause-same : goal.returns-clause-same
returns-clause-same c = c.loop-seat.invariant.same
