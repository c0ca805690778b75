use Rattle.std.proofs.Common.{◌≡◌, ◌≤◌, ◌+◌, ◌-◌, ◌∙◌, ap, length, arith}
use Rattle.sample_planes.specs.PackedRuns.{PackedRun}
use Rattle.sample_planes.proofs.RunLemmas.{part-numbered}
use Rattle.sample_planes.proofs.numbered.NumberedSamplesSampleSource.unpack_into.Goals as goal

pub returns : goal.returns
returns c =
    let i = c.self.inside in
    let behind : i.first ≤ c.args.n = rw (← c.self.view_is) at c.requires.first in
    let before : c.args.n + c.args.len ≤ i.first + length i.samples.samples =
    rw (← c.self.view_is) at c.requires.end in
    let whole : i.first + (c.args.n - i.first) ≡ c.args.n = omega (arith, behind) in
    rw (← c.self.view_is) (c.unpack_into.ensures ∙ ap (λ (r : PackedRun). r.samples) c.part.ensures
    ∙ rw whole at (part-numbered i.samples.samples i.first (c.args.n - i.first) c.args.len
    (omega (arith, behind, before))))
