use Rattle.std.proofs.Common.{refl}
use Rattle.acquisition.proofs.plan.Plan.cells.Goals as goal

pub returns-clause-value : goal.returns-clause-value
returns-clause-value c = rw c.bin_count.ensures.value refl
