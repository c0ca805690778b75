use Rattle.std.proofs.Common.{◌≤◌, ◌<◌, ◌+◌, length, arith}
use Rattle.lane_correlator.specs.Counting.{counts_in}
use Rattle.tracking_loops.specs.Standing.{StandsFor, dump_count}
use Rattle.tracking_loops.proofs.NewsLemmas.{early-watching, early-news}
use Rattle.tracking_loops.proofs.TrackingLemmas.{counted, tracked}
use Rattle.tracking_loops.specs.declared.steering.TheConstants.{FIRST_HOLDING}
use Rattle.tracking_loops.proofs.loops.Loops.take.Goals as goal

pub take-requires-clause-room : goal.take-requires-clause-room
unfolding dump_count
take-requires-clause-room c = c.requires.room

pub returns-then-self-lt-FIRST_HOLDING-clause-counted :
    goal.returns-then-self-lt-FIRST_HOLDING-clause-counted
unfolding dump_count
returns-then-self-lt-FIRST_HOLDING-clause-counted c = counted (counts_in c.args.counts)
    c.args.self.now.steering c.take.new.self c.take.ensures

pub returns-then-self-lt-FIRST_HOLDING-clause-stands :
    goal.returns-then-self-lt-FIRST_HOLDING-clause-stands
unfolding StandsFor
returns-then-self-lt-FIRST_HOLDING-clause-stands c start dumps h =
    let more = counted (counts_in c.args.counts) c.args.self.now.steering c.take.new.self
    c.take.ensures in
    let early : length dumps < 199 = omega (arith, more, h.taken, c.if-self-lt-FIRST_HOLDING.true)
    in
    tracked start dumps (counts_in c.args.counts) c.args.self.now _ h c.take.ensures
    (early-watching dumps (counts_in c.args.counts) c.args.self.now.lock early h.lock)

pub returns-then-self-lt-FIRST_HOLDING-clause-news :
    goal.returns-then-self-lt-FIRST_HOLDING-clause-news
unfolding StandsFor
returns-then-self-lt-FIRST_HOLDING-clause-news c start dumps h =
    let more = counted (counts_in c.args.counts) c.args.self.now.steering c.take.new.self
    c.take.ensures in
    let early : length dumps < 199 = omega (arith, more, h.taken, c.if-self-lt-FIRST_HOLDING.true)
    in
    early-news dumps (counts_in c.args.counts) early

pub returns-clause-counted : goal.returns-clause-counted
unfolding dump_count
returns-clause-counted c = counted (counts_in c.args.counts) c.args.self.now.steering
    c.take.new.self c.take.ensures

pub returns-clause-stands : goal.returns-clause-stands
unfolding StandsFor
returns-clause-stands c start dumps h =
    let more = counted (counts_in c.args.counts) c.args.self.now.steering c.take.new.self
    c.take.ensures in
    let late : FIRST_HOLDING ≤ length dumps + 1 = omega (
      arith,
      more,
      h.taken,
      c.if-self-lt-FIRST_HOLDING.false,
    ) in
    tracked start dumps (counts_in c.args.counts) c.args.self.now _ h c.take.ensures
    (c.take-2.ensures.goes_on dumps late h.lock)

pub returns-clause-news : goal.returns-clause-news
unfolding StandsFor
returns-clause-news c start dumps h =
    let more = counted (counts_in c.args.counts) c.args.self.now.steering c.take.new.self
    c.take.ensures in
    let late : FIRST_HOLDING ≤ length dumps + 1 = omega (
      arith,
      more,
      h.taken,
      c.if-self-lt-FIRST_HOLDING.false,
    ) in
    c.take-2.ensures.news dumps late h.lock
