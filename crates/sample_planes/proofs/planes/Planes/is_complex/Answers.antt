use Rattle.std.specs.Prelude.{false}
use Rattle.sample_planes.specs.Signs.{AreReal}
use Rattle.sample_planes.proofs.PlaneLemmas.{held_quadrature}
use Rattle.sample_planes.proofs.planes.Planes.is_complex.Goals as goal

pub returns : goal.returns
unfolding AreReal
returns c real i inside =
    held_quadrature c.self.inside.in_phase c.self.inside.is_complex false
    c.self.inside.quadrature c.self.inside.len i c.args.self.now c.self.view_is real inside
