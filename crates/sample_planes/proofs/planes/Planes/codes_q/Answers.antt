use Rattle.std.proofs.Common.{◌+◌, ◌*◌, ◌-◌}
use Rattle.std.specs.Prelude.{slice_index, true, false}
use Rattle.definitions.specs.Samples.{sample_at}
use Rattle.sample_planes.specs.Signs.{part_at, AreReal}
use Rattle.sample_planes.proofs.PlaneLemmas.{held_quadrature}
use Rattle.sample_planes.proofs.CodeLemmas.{code_of}
use Rattle.sample_planes.proofs.planes.Planes.codes_q.Goals as goal

pub returns-then-self-clause-codes : goal.returns-then-self-clause-codes
returns-then-self-clause-codes c = record {
  long = c.codes.ensures.long;
  few = c.codes.ensures.few;
  fourth = c.codes.ensures.fourth;
  codes = λ j below inside. code_of
      (sample_at c.args.self.now (64 * c.args.w + j)).quadrature
      (part_at c.self.inside.quadrature (64 * c.args.w + j)) (slice_index c.codes.result (63 - j))
      (held_quadrature c.self.inside.in_phase c.self.inside.is_complex true
      c.self.inside.quadrature c.self.inside.len (64 * c.args.w + j) c.args.self.now
      c.self.view_is c.if-self.true inside)
      (c.codes.ensures.codes j below);
}

pub returns-else-self-clause-real : goal.returns-else-self-clause-real
unfolding AreReal
returns-else-self-clause-real c i inside =
    held_quadrature c.self.inside.in_phase c.self.inside.is_complex false
    c.self.inside.quadrature c.self.inside.len i c.args.self.now c.self.view_is c.if-self.false
    inside
