use Rattle.std.proofs.Common.{refl, arith}
use Rattle.receiver.proofs.SessionLemmas.{takes-at}
use Rattle.receiver.proofs.queues.take_due.Goals as goal

pub returns-in-Some-clause-some : goal.returns-in-Some-clause-some
returns-in-Some-clause-some c =
    rw c.loop-index.invariant.same
    (takes-at c.args.now 1 c.args.queues.now c.loop-index.index c.index-queues-index.result
    c.take_due.new.self _ c.loop-index-test.true
    (rw c.loop-index.invariant.same at c.loop-index.invariant.early)
    (record {
      entry = _;
      first = rw c.loop-index.invariant.same at c.in-Some.ensures.some;
      is_due = c.in-Some.ensures.due;
      what = refl;
    }) (omega arith))
