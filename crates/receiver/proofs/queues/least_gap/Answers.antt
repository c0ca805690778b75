use Rattle.std.proofs.Common.{◌≡◌, List, [], drop, arith, ap}
use Rattle.std.specs.Prelude.{min}
use Rattle.std.proofs.lemmas.List.{drop_all}
use Rattle.std.proofs.lemmas.Grind.{common_steps}
use Rattle.receiver.specs.declared.queue.Queue.{Queue}
use Rattle.receiver.specs.Queues.{least_gap_of}
use Rattle.receiver.proofs.SessionLemmas.{least-small}
use Rattle.receiver.proofs.queues.least_gap.Goals as goal

pub loop-queue-init : goal.loop-queue-init
loop-queue-init c =
    record { rest = omega (arith, least-small c.args.now c.args.queues.now); small = omega arith }

pub returns : goal.returns
returns c =
    let none : drop c.loop-queue.queue-index c.args.queues.now ≡ [] =
    drop_all c.loop-queue.queue-index c.args.queues.now c.loop-queue-test.false in
    let last : min c.loop-queue.least
    (least_gap_of c.args.now (drop c.loop-queue.queue-index c.args.queues.now))
    ≡ min c.loop-queue.least 18446744073709551615 =
    ap (λ (l : List Queue). min c.loop-queue.least (least_gap_of c.args.now l)) none in
    omega (arith, last, c.loop-queue.invariant.rest, c.loop-queue.invariant.small)

pub loop-queue-preserved : goal.loop-queue-preserved
loop-queue-preserved c = grind (arith, common_steps)
