use Rattle.std.proofs.Common.{◌∙◌}
use Rattle.sample_planes.specs.Packings.{packing_of}
use Rattle.sample_planes.proofs.PlaneLemmas.{run_near}
use Rattle.sample_planes.proofs.planes.Planes.fill_from_few.Goals as goal

pub returns : goal.returns
returns c = c.fill_from_many.ensures
    ∙ run_near (packing_of c.args.format) c.near_bytes-near.result c.args.bytes.now
    c.per_byte-per_byte.result c.width.result c.args.first c.args.len c.per_byte-per_byte.ensures
    c.width.ensures c.near_bytes-near.ensures.bytes
