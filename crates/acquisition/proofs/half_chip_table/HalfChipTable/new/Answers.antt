use Rattle.std.proofs.Common.{pos, arith}
use Rattle.acquisition.proofs.TableLemmas.{all_same, sizes-none}
use Rattle.acquisition.specs.declared.half_chip_table.TheConstants.{HALF_CHIPS}
use Rattle.acquisition.proofs.half_chip_table.HalfChipTable.new.Goals as goal

pub invariant_of-result-clause-small : goal.invariant_of-result-clause-small
invariant_of-result-clause-small c =
    rw (sizes-none _ HALF_CHIPS (λ k h. all_same HALF_CHIPS k (pos 0) h)) (omega arith)

pub returns-clause-none : goal.returns-clause-none
returns-clause-none c k h = all_same HALF_CHIPS k (pos 0) h

pub returns-clause-sizes : goal.returns-clause-sizes
returns-clause-sizes c = sizes-none _ HALF_CHIPS (λ k h. all_same HALF_CHIPS k (pos 0) h)
