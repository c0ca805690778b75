use Rattle.std.proofs.lemmas.Bool.{false≢true}
use Rattle.std.proofs.Common.{◌++◌, ◌-◌, refl, arith, rules}
use Rattle.channels.specs.Searching.{due_of}
use Rattle.channels.proofs.SearchedLemmas.{stays, whole, quarters, searches-on, answers-with}
use Rattle.channels.proofs.searched.Searched.take.Goals as goal

pub returns-then-to-next_cell-clause-takes : goal.returns-then-to-next_cell-clause-takes
returns-then-to-next_cell-clause-takes g c settings plan begun xs ys now holds s =
    c.next_cell.ensures.waits settings plan begun xs ys
    (omega (arith, now, c.if-to-next_cell.true)) s

pub returns-clause-takes : goal.returns-clause-takes
returns-clause-takes g c settings plan begun xs ys now holds s =
    let old = c.args.self.now in
    let inside = whole settings plan begun xs old s ys c.args.to now
    (omega (arith, c.if-to-next_cell.false, c.next_cell.ensures.value)) in
    let stands = c.advance.ensures.stands settings plan begun (xs ++ ys)
    (λ n low high. holds n low (omega (arith, high, inside)))
    (stays settings plan begun xs old s ys) in
    let next = searches-on settings plan begun xs old s ys c.args.to now _ refl
    (rw (
      c.div_ceil.ensures,
      c.saturating_sub-left.ensures,
      c.due.ensures.value,
      c.cells.ensures,
      c.done.ensures.value,
      quarters (due_of old - c.args.to),
    ) at c.advance.ensures.done) stands in
    record {
      stands = next;
      answers = answers-with settings plan begun xs old s ys c.args.to now c.result.result _
          next.done c.result.ensures.done c.result.ensures.cell stands;
    }

pub returns-then-to-next_cell-clause-due : goal.returns-then-to-next_cell-clause-due
returns-then-to-next_cell-clause-due g c = (
  λ is. absurd (false≢true is),
  λ far. absurd (omega (arith, far, c.if-to-next_cell.true, c.next_cell.ensures.value)),
)

pub returns-then-to-next_cell-clause-waits : goal.returns-then-to-next_cell-clause-waits
returns-then-to-next_cell-clause-waits c = search rules

pub returns-clause-later : goal.returns-clause-later
returns-clause-later c = search rules
