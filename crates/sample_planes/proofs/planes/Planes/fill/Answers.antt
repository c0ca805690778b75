use Rattle.std.proofs.Common.{◌∙◌}
use Rattle.sample_planes.specs.Packings.{packing_of}
use Rattle.sample_planes.proofs.RunLemmas.{run-counted_on}
use Rattle.sample_planes.proofs.planes.Planes.fill.Goals as goal

pub returns-else-near-lt-NEAR_BYTES : goal.returns-else-near-lt-NEAR_BYTES
returns-else-near-lt-NEAR_BYTES c = c.fill_from_many.ensures
    ∙ run-counted_on (packing_of c.args.format) c.args.bytes.now c.per_byte-per_byte.result
    c.args.first c.args.len c.per_byte-per_byte.ensures c.requires.within
