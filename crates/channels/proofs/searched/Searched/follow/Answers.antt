use Rattle.std.proofs.Common.{◌≡◌, sym, ap, ◌∙◌, arith, rules}
use Rattle.definitions.specs.Acquisition.{Plan}
use Rattle.definitions.specs.Loops.{shift_after}
use Rattle.definitions.specs.Lives.{found_channel}
use Rattle.acquisition.specs.Cells.{cell_in}
use Rattle.channels.proofs.SearchedLemmas.{found-begins}
use Rattle.channels.proofs.searched.Searched.follow.Goals as goal

pub returns-clause-follows : goal.returns-clause-follows
returns-clause-follows c settings plan begun xs now s =
    let searched : c.plan.result ≡ plan = c.plan.ensures ∙ s.search.plan_is in
    let signal = c.in_ok-signal.ensures in
    let shift = rw searched at signal.shift in
    let due = c.due-due.ensures.is settings plan begun xs s.search in
    rw s.recorded at c.track_after.ensures.stands
    (found_channel settings plan begun (cell_in c.args.cell.now)) xs
    (omega (arith, now, c.due-due.ensures.value))
    (found-begins settings plan begun _ (cell_in c.args.cell.now) c.in_ok-signal.signal _
    (signal.prn ∙ ap (λ (p : Plan). p.prn) searched) shift signal.half
    (omega (arith, now, c.due-due.ensures.value, due))
    (omega (arith, due, c.start.ensures, s.search.start_is)))
    (λ dumps. ap (λ v. shift_after v dumps) (sym shift))

pub returns-clause-begins : goal.returns-clause-begins
returns-clause-begins c = rw c.due-due.ensures.value at c.track_after.ensures.begins

pub returns-clause-found : goal.returns-clause-found
returns-clause-found c = search rules
