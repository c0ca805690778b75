use Rattle.std.proofs.Common.{rules, ◌∙◌, w64, FitsSigned, to_z-of_z}
use Rattle.std.specs.Prelude.{pos, slice_index_or}
use Rattle.data_sets.proofs.LastAlmanacs.{of-satellite, other-satellite, satellite}
use Rattle.data_sets.proofs.LastAlmanacs.{not-from-one, not-to-32}
use Rattle.data_sets.proofs.almanacs.Almanacs.keep.Goals as goal
use Rattle.data_sets.proofs.almanacs.Almanacs.keep.Goals.{else-sv-ge1-via-then-sv-ge1+else-sv}
use Rattle.data_sets.proofs.almanacs.Almanacs.keep.Goals.{else-sv-ge1-via-else-sv-ge1}

pub returns-then-sv-clause-last : goal.returns-then-sv-clause-last
returns-then-sv-clause-last c pages last =
    let sv = slice_index_or c.args.numbers.now 1 (pos 0) in
    let fits : FitsSigned w64 sv = search rules in
    let it = satellite sv (rw (to_z-of_z fits) at c.if-sv-ge1.true)
    (rw (to_z-of_z fits) at c.if-sv.true) in
    rw (last, to_z-of_z fits) (of-satellite pages c.args.numbers.now _ it.0 it.1 it.2)

pub returns-else-sv-ge1-clause-last : goal.returns-else-sv-ge1-clause-last
returns-else-sv-ge1-clause-last c pages last =
    let sv = slice_index_or c.args.numbers.now 1 (pos 0) in
    let fits : FitsSigned w64 sv = search rules in
    last ∙ other-satellite pages c.args.numbers.now (λ n low high. elim c.else-sv-ge1.branch [
      | else-sv-ge1-via-then-sv-ge1+else-sv w ↦ not-to-32 sv n
          (rw (to_z-of_z fits) at w.if-sv.false) high
      | else-sv-ge1-via-else-sv-ge1 w ↦ not-from-one sv n
          (rw (to_z-of_z fits) at w.if-sv-ge1.false) low
    ])
