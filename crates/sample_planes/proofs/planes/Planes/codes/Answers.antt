use Rattle.std.proofs.Common.{◌+◌, ◌*◌, ap, ◌-◌}
use Rattle.std.specs.Prelude.{slice_index}
use Rattle.definitions.specs.Samples.{Sample, sample_at}
use Rattle.sample_planes.specs.Signs.{sample_in, part_at}
use Rattle.sample_planes.proofs.PlaneLemmas.{read_run}
use Rattle.sample_planes.proofs.CodeLemmas.{code_of}
use Rattle.sample_planes.proofs.planes.Planes.codes.Goals as goal

pub returns : goal.returns
returns c = record {
  codes = record {
    long = c.codes.ensures.long;
    few = c.codes.ensures.few;
    fourth = c.codes.ensures.fourth;
    codes = λ j below inside. code_of
        (sample_at c.args.self.now (64 * c.args.w + j)).in_phase
        (part_at c.self.inside.in_phase (64 * c.args.w + j))
        (slice_index c.codes.result (63 - j))
        (ap (λ (x : Sample). x.in_phase)
        (read_run (sample_in c.self.inside.in_phase c.self.inside.is_complex
        c.self.inside.quadrature) c.self.inside.len
        (64 * c.args.w + j) c.args.self.now c.self.view_is inside))
        (c.codes.ensures.codes j below);
  };
}
