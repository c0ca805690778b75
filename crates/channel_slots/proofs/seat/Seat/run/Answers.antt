use Rattle.std.proofs.Common.{◌≤◌, ◌+◌, ℕ, [], ◌++◌, length, refl}
use Rattle.std.proofs.Common.{arith}
use Rattle.channels.specs.declared.window.Window.{Window}
use Rattle.channels.specs.Windows.{dump_of}
use Rattle.channels.proofs.OverLemmas.{over-same}
use Rattle.channel_slots.specs.NewsEvents.{events_with, time_of}
use Rattle.channel_slots.specs.Timelines.{events_in}
use Rattle.channel_slots.specs.Slots.{chances, next_event}
use Rattle.channel_slots.specs.declared.slot.TheConstants.{SLOT_EVENTS}
use Rattle.channel_slots.proofs.ChanceLemmas.{one-chance}
use Rattle.channel_slots.proofs.GoesLemmas.{begins, goes-to, goes}
use Rattle.channel_slots.proofs.OrderLemmas.{put-nothing}
use Rattle.channel_slots.proofs.PutLemmas.{put-count}
use Rattle.channel_slots.proofs.StayLemmas.{same-again, stands-before}
use Rattle.channel_slots.proofs.seat.Seat.run.Goals as goal

pub loop-self-init : goal.loop-self-init
loop-self-init c = record {
  goes = begins c.args.window.now c.args.self.now (events_in c.args.timeline.now);
  few = omega arith;
  room = λ _. omega (arith, one-chance c.args.self.now.slot);
  same = record { first = refl; end = refl; history = refl; stands = λ xs s. s };
}

pub take-requires-clause-taken : goal.take-requires-clause-taken
take-requires-clause-taken c = omega (arith, c.end-end.ensures, c.loop-self.invariant.same.end)

pub take-requires-clause-ready : goal.take-requires-clause-ready
take-requires-clause-ready c =
    let same = c.loop-self.invariant.same in
    rw (same.first, same.history, c.end-end.ensures)
    (c.loop-self.invariant.goes.ready c.requires.ready)

pub put_news-requires : goal.put_news-requires
put_news-requires c = omega (arith, c.loop-self.invariant.few, c.requires.fits)

pub loop-self-smaller-in-Some : goal.loop-self-smaller-in-Some
loop-self-smaller-in-Some c =
    let took = c.take.ensures in
    let due : ℕ = time_of c.in-Some.news in
    omega (
      arith,
      c.loop-self-test.true,
      c.next_event.ensures.value,
      rw c.in-Some.is at took.goes_on,
      rw c.in-Some.is at took.later,
    )

pub loop-self-preserved-in-Some : goal.loop-self-preserved-in-Some
loop-self-preserved-in-Some c =
    let first : Window = c.args.window.now in
    let old : Window = c.loop-self.window in
    let new : Window = c.take.new.window in
    let same = c.loop-self.invariant.same in
    let still = same-again first old new same c.take.ensures.same in
    let news = c.in-Some.news in
    let emits = rw c.in-Some.is at c.take.ensures.emits in
    let ready = rw (same.first, same.history, c.end-end.ensures) at c.take.ensures.ready in
    let within = rw c.in-Some.is at c.take.ensures.within in
    let few = rw c.in-Some.is at c.take.ensures.chances in
    let put = rw c.dump.ensures at c.put_news.ensures in
    let near : next_event c.loop-self.self.slot ≤ c.end-end.result =
    omega (arith, c.loop-self-test.true, c.next_event.ensures.value) in
    let due = rw c.in-Some.is at c.take.ensures.later in
    let many =
    put-count c.loop-self.self.client c.loop-self.self.number (time_of news)
    (events_with news (dump_of new)) (events_in c.loop-self.timeline)
    (events_in c.put_news.new.self) put in
    let room : length (events_in c.put_news.new.self) + chances c.take.new.self
    ≤ length (events_in c.args.timeline.now) + SLOT_EVENTS =
    omega (arith, many, few, c.loop-self.invariant.room near) in
    record {
      goes = goes-to first c.args.self.now c.loop-self.self _ (events_in c.args.timeline.now)
          (events_in c.loop-self.timeline) (events_in c.put_news.new.self)
          (events_with news (dump_of new)) (time_of news) c.loop-self.invariant.goes due
          (omega (arith, within, c.end-end.ensures))
          (λ settings xs ys commands some now over s.
          emits settings xs ys commands some now (over-same (xs ++ ys) first old same over) s)
          (λ settings xs commands s. stands-before settings xs commands c.loop-self.self.slot first
          (omega (arith, near, c.end-end.ensures)) s)
          (λ _. ready) refl refl put;
      few = omega (arith, room);
      room = λ _. room;
      same = still;
    }

pub loop-self-smaller : goal.loop-self-smaller
loop-self-smaller c =
    omega (
      arith,
      c.loop-self-test.true,
      c.next_event.ensures.value,
      rw c.in_default.is at c.take.ensures.goes_on,
    )

pub loop-self-preserved : goal.loop-self-preserved
loop-self-preserved c =
    let first : Window = c.args.window.now in
    let old : Window = c.loop-self.window in
    let new : Window = c.take.new.window in
    let same = c.loop-self.invariant.same in
    let still = same-again first old new same c.take.ensures.same in
    let emits = rw c.in_default.is at c.take.ensures.emits in
    let ready = rw (same.first, same.history, c.end-end.ensures) at c.take.ensures.ready in
    let gone = rw c.in_default.is at c.take.ensures.goes_on in
    let near : next_event c.loop-self.self.slot ≤ c.end-end.result =
    omega (arith, c.loop-self-test.true, c.next_event.ensures.value) in
    record {
      goes = goes-to first c.args.self.now c.loop-self.self _ (events_in c.args.timeline.now)
          (events_in c.loop-self.timeline) (events_in c.loop-self.timeline) [] c.end-end.result
          c.loop-self.invariant.goes near (omega (arith, c.end-end.ensures))
          (λ settings xs ys commands some now over s.
          emits settings xs ys commands some now (over-same (xs ++ ys) first old same over) s)
          (λ settings xs commands s. stands-before settings xs commands c.loop-self.self.slot first
          (omega (arith, near, c.end-end.ensures)) s)
          (λ _. ready) refl refl (put-nothing _ _);
      few = c.loop-self.invariant.few;
      room = λ more. absurd (omega (arith, more, gone));
      same = still;
    }

pub returns-clause-goes : goal.returns-clause-goes
returns-clause-goes c =
    let w : Window = c.args.window.now in
    goes w c.args.self.now c.loop-self.self (events_in c.args.timeline.now)
    (events_in c.loop-self.timeline) c.loop-self.invariant.goes
    (omega (arith, c.loop-self.invariant.few))
    (λ settings xs ys commands s some now. c.next_event.ensures.quiet settings xs ys commands s
    some (omega (arith, now, c.loop-self-test.false, c.end-end.ensures)))

pub returns-clause-same : goal.returns-clause-same
returns-clause-same c = c.loop-self.invariant.same

pub returns-clause-rests : goal.returns-clause-rests
returns-clause-rests c =
    omega (arith, c.end-end.ensures, c.next_event.ensures.value, c.loop-self-test.false)
