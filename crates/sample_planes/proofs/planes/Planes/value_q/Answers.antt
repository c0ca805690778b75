use Rattle.std.proofs.Common.{◌∙◌, sym, arith, w8}
use Rattle.std.specs.Prelude.{true, false}
use Rattle.std.proofs.lemmas.Int.{to_z-of_z, fits_signed_from_abs}
use Rattle.sample_planes.specs.Signs.{sample_in}
use Rattle.sample_planes.proofs.PlaneLemmas.{in_run, held_quadrature}
use Rattle.sample_planes.proofs.planes.Planes.value_q.Goals as goal

pub value-requires : goal.value-requires
value-requires c = omega (
  arith,
  in_run (sample_in c.self.inside.in_phase c.self.inside.is_complex c.self.inside.quadrature)
      c.self.inside.len c.args.i c.args.self.now c.self.view_is c.requires,
  c.self.invariant.0,
)

pub returns-then-self-clause-value : goal.returns-then-self-clause-value
returns-then-self-clause-value c =
    to_z-of_z w8 c.value.result
    (fits_signed_from_abs w8 c.value.result (omega (arith, c.value.ensures.small)))
    ∙ c.value.ensures.value
    ∙ sym (held_quadrature c.self.inside.in_phase c.self.inside.is_complex true
    c.self.inside.quadrature c.self.inside.len c.args.i c.args.self.now c.self.view_is
    c.if-self.true c.requires)

pub returns-else-self-clause-value : goal.returns-else-self-clause-value
returns-else-self-clause-value c = sym (held_quadrature c.self.inside.in_phase
    c.self.inside.is_complex false c.self.inside.quadrature c.self.inside.len c.args.i
    c.args.self.now c.self.view_is c.if-self.false c.requires)
