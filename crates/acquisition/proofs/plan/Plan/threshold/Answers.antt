use Rattle.std.proofs.Common.{refl}
use Rattle.acquisition.proofs.plan.Plan.threshold.Goals as goal

pub returns-clause-value : goal.returns-clause-value
returns-clause-value c = rw (← c.self.view_is) refl
