use Rattle.std.proofs.Common.{ap, ◌∙◌}
use Rattle.sample_planes.specs.PackedRuns.{PackedRun}
use Rattle.sample_planes.specs.Packings.{packing_of}
use Rattle.sample_planes.specs.declared.planes.TheConstants.{MAX_SAMPLES}
use Rattle.sample_planes.proofs.RunLemmas.{short_run}
use Rattle.sample_planes.proofs.packed.PackedSamples.unpack.Goals as goal

pub unpack-requires-clause-short : goal.unpack-requires-clause-short
unpack-requires-clause-short c =
    let i = c.self.inside in
    short_run (packing_of i.format) i.bytes.now i.first i.len c.args.self.now.samples
    (ap (λ (r : PackedRun). r.samples) c.self.view_is) MAX_SAMPLES c.requires

pub returns : goal.returns
returns c = c.unpack.ensures ∙ ap (λ (r : PackedRun). r.samples) c.self.view_is
