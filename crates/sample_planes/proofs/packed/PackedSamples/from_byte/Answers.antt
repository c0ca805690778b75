use Rattle.std.proofs.Common.{List, ap, arith}
use Rattle.definitions.specs.Samples.{Sample}
use Rattle.sample_planes.specs.PackedRuns.{PackedRun}
use Rattle.sample_planes.specs.Packings.{packing_of}
use Rattle.sample_planes.proofs.RunLemmas.{run-counted_on, run-within}
use Rattle.sample_planes.proofs.ByteLemmas.{place_of}
use Rattle.sample_planes.proofs.packed.PackedSamples.from_byte.Goals as goal

pub slice_bounds-result-count : goal.slice_bounds-result-count
slice_bounds-result-count c =
    (place_of (packing_of c.args.format) c.args.bytes.now c.per_byte-per_byte.result c.args.first
    c.args.len c.per_byte-per_byte.ensures c.requires.within).within

pub invariant_of-result : goal.invariant_of-result
invariant_of-result c =
    let there = run-within (packing_of c.args.format) c.args.bytes.now c.per_byte-per_byte.result
    c.args.first c.args.len c.per_byte-per_byte.ensures c.requires.within in
    (there.start, there.within, omega (arith, there.few, c.requires.few))

pub returns : goal.returns
returns c =
    ap (λ (l : List Sample). let r : PackedRun =
    record { packing = packing_of c.args.format; samples = l } in r)
    (run-counted_on (packing_of c.args.format) c.args.bytes.now c.per_byte-per_byte.result
    c.args.first c.args.len c.per_byte-per_byte.ensures c.requires.within)
