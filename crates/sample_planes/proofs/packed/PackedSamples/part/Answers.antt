use Rattle.std.proofs.Common.{ap, ◌∙◌}
use Rattle.sample_planes.specs.PackedRuns.{front_of}
use Rattle.sample_planes.proofs.packed.PackedSamples.part.Goals as goal

pub returns : goal.returns
returns c = c.split_at-2.ensures.front ∙ ap (front_of c.args.len) c.split_at.ensures.back
