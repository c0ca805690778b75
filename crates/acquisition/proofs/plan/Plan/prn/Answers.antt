use Rattle.std.proofs.Common.{refl}
use Rattle.acquisition.proofs.plan.Plan.prn.Goals as goal

pub returns : goal.returns
returns c = rw (← c.self.view_is) refl
