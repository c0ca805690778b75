use Rattle.std.proofs.Common.{arith}
use Rattle.channels.proofs.SearchedLemmas.{waits}
use Rattle.channels.proofs.searched.Searched.next_cell.Goals as goal

pub returns-clause-waits : goal.returns-clause-waits
returns-clause-waits c settings plan begun xs ys early s =
    waits settings plan begun xs c.args.self.now s ys (omega (
      arith,
      early,
      c.due.ensures.value,
      c.cells.ensures,
      c.done.ensures,
      c.saturating_sub.ensures,
    ))

pub returns-clause-value : goal.returns-clause-value
returns-clause-value c =
    omega (
      arith,
      c.due.ensures.value,
      c.cells.ensures,
      c.done.ensures,
      c.saturating_sub.ensures,
    )
