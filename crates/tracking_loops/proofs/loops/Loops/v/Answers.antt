use Rattle.std.proofs.Common.{w64, ap, ◌∙◌, arith}
use Rattle.std.proofs.lemmas.Int.{to_z-of_z, fits_signed_from_abs}
use Rattle.definitions.specs.Loops.{Loops}
use Rattle.tracking_loops.specs.Standing.{StandsFor}
use Rattle.tracking_loops.proofs.loops.Loops.v.Goals as goal

pub returns-clause-is : goal.returns-clause-is
unfolding StandsFor
returns-clause-is c start dumps h =
    to_z-of_z w64 c.args.self.now.steering.v (fits_signed_from_abs w64 c.args.self.now.steering.v
    (omega (arith, c.args.self.now.steering.v_in_range)))
    ∙ ap (λ (l : Loops). l.v) h.steering
