use Rattle.std.proofs.Common.{◌≡◌, arith}
use Rattle.sample_history.specs.Histories as histories
use Rattle.bank_tests.proofs.HeldLemmas.{ready-later}
use Rattle.bank_tests.proofs.channel_slots_tests.events.next.Goals as goal

pub take-requires-clause-ready : goal.take-requires-clause-ready
take-requires-clause-ready g c =
    let zero : histories.first_of c.history.result.now ≡ 0 =
    omega (arith, c.first.ensures, c.if-first-ne0.false) in
    let known = c.requires.ready in
    ready-later c.args.window.now known.0 c.args.to c.args.slot.now (rw c.history.ensures at zero)
    known.1
    known.2

pub returns-clause-ready : goal.returns-clause-ready
returns-clause-ready g c =
    let zero : histories.first_of c.history.result.now ≡ 0 =
    omega (arith, c.first.ensures, c.if-first-ne0.false) in
    rw c.take.ensures.same.first (rw (rw c.history.ensures at zero) at c.take.ensures.ready)

pub returns-clause-taken : goal.returns-clause-taken
returns-clause-taken g c none =
    let zero : histories.first_of c.history.result.now ≡ 0 =
    omega (arith, c.first.ensures, c.if-first-ne0.false) in
    rw (rw c.history.ensures at zero) at (c.take.ensures.all_taken none)
