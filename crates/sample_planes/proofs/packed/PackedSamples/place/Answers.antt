use Rattle.std.proofs.Common.{refl}
use Rattle.sample_planes.specs.Packings.{packing_of}
use Rattle.definitions.proofs.SampleLemmas.{samples_from-length}
use Rattle.sample_planes.proofs.packed.PackedSamples.place.Goals as goal

pub returns-clause-samples : goal.returns-clause-samples
returns-clause-samples c =
    let i = c.self.inside in
    rw (← c.self.view_is, samples_from-length (packing_of i.format) i.bytes.now i.first i.len) refl

pub returns-clause-within : goal.returns-clause-within
returns-clause-within c =
    let i = c.self.inside in
    rw (← c.self.view_is, samples_from-length (packing_of i.format) i.bytes.now i.first i.len)
    c.self.invariant.1
