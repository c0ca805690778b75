use Rattle.std.proofs.Common.{◌≡◌, ◌*◌, ◌∙◌, length, arith}
use Rattle.definitions.specs.Samples.{sample_count}
use Rattle.definitions.proofs.SampleLemmas.{samples_from-length}
use Rattle.sample_planes.specs.Packings.{packing_of}
use Rattle.sample_planes.proofs.packed.PackedSamples.new.Goals as goal

pub returns-clause-count : goal.returns-clause-count
returns-clause-count c =
    let packing = packing_of c.args.format in
    let all : length c.args.bytes.now * c.per_byte-per_byte.result
    ≡ sample_count packing c.args.bytes.now = rw c.per_byte-per_byte.ensures (omega arith) in
    rw c.from_byte.ensures (samples_from-length packing c.args.bytes.now 0
    (length c.args.bytes.now * c.per_byte-per_byte.result)) ∙ all
