use Rattle.std.proofs.Common.{arith, w32}
use Rattle.std.proofs.lemmas.Int.{to_z-of_z, fits_signed_from_abs}
use Rattle.acquisition.proofs.plan.Plan.centre.Goals as goal

pub returns-clause-value : goal.returns-clause-value
returns-clause-value c =
    let i = c.self.inside in
    rw (← c.self.view_is)
    (to_z-of_z w32 i.centre (fits_signed_from_abs w32 i.centre (omega (arith, c.self.invariant.0))))
