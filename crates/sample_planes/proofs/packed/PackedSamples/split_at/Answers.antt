use Rattle.std.proofs.Common.{◌∙◌, List, arith, ap}
use Rattle.definitions.specs.Samples.{Sample}
use Rattle.sample_planes.specs.PackedRuns.{PackedRun, front_of, back_of}
use Rattle.sample_planes.specs.Packings.{packing_of}
use Rattle.sample_planes.proofs.RunLemmas.{has_part, run-front, run-back}
use Rattle.sample_planes.proofs.packed.PackedSamples.split_at.Goals as goal

pub overflow_add-behind : goal.overflow_add-behind
overflow_add-behind c =
    let i = c.self.inside in
    let part = has_part (packing_of i.format) i.bytes.now i.first i.len c.args.n
    c.args.self.now.samples (ap (λ (r : PackedRun). r.samples) c.self.view_is) c.requires
    c.self.invariant.1 in
    omega (arith, part.enough, c.self.invariant.2)

pub from_byte-front-requires-clause-within : goal.from_byte-front-requires-clause-within
from_byte-front-requires-clause-within c =
    let i = c.self.inside in
    let part = has_part (packing_of i.format) i.bytes.now i.first i.len c.args.n
    c.args.self.now.samples (ap (λ (r : PackedRun). r.samples) c.self.view_is) c.requires
    c.self.invariant.1 in
    part.front

pub from_byte-front-requires-clause-few : goal.from_byte-front-requires-clause-few
from_byte-front-requires-clause-few c =
    let i = c.self.inside in
    let part = has_part (packing_of i.format) i.bytes.now i.first i.len c.args.n
    c.args.self.now.samples (ap (λ (r : PackedRun). r.samples) c.self.view_is) c.requires
    c.self.invariant.1 in
    omega (arith, part.enough, c.self.invariant.2)

pub overflow_sub-self-inside : goal.overflow_sub-self-inside
overflow_sub-self-inside c =
    let i = c.self.inside in
    let part = has_part (packing_of i.format) i.bytes.now i.first i.len c.args.n
    c.args.self.now.samples (ap (λ (r : PackedRun). r.samples) c.self.view_is) c.requires
    c.self.invariant.1 in
    part.enough

pub from_byte-back-requires-clause-within : goal.from_byte-back-requires-clause-within
from_byte-back-requires-clause-within c =
    let i = c.self.inside in
    let part = has_part (packing_of i.format) i.bytes.now i.first i.len c.args.n
    c.args.self.now.samples (ap (λ (r : PackedRun). r.samples) c.self.view_is) c.requires
    c.self.invariant.1 in
    part.back

pub from_byte-back-requires-clause-few : goal.from_byte-back-requires-clause-few
from_byte-back-requires-clause-few c =
    let i = c.self.inside in
    let part = has_part (packing_of i.format) i.bytes.now i.first i.len c.args.n
    c.args.self.now.samples (ap (λ (r : PackedRun). r.samples) c.self.view_is) c.requires
    c.self.invariant.1 in
    omega (arith, part.enough, c.self.invariant.2)

pub returns-clause-front : goal.returns-clause-front
returns-clause-front c =
    let i = c.self.inside in
    let part = has_part (packing_of i.format) i.bytes.now i.first i.len c.args.n
    c.args.self.now.samples (ap (λ (r : PackedRun). r.samples) c.self.view_is) c.requires
    c.self.invariant.1 in
    c.from_byte-front.ensures
    ∙ ap (λ (l : List Sample). let r : PackedRun =
    record { packing = packing_of i.format; samples = l } in r)
    (run-front (packing_of i.format) i.bytes.now i.first i.len c.args.n part.enough)
    ∙ ap (front_of c.args.n) c.self.view_is

pub returns-clause-back : goal.returns-clause-back
returns-clause-back c =
    let i = c.self.inside in
    let part = has_part (packing_of i.format) i.bytes.now i.first i.len c.args.n
    c.args.self.now.samples (ap (λ (r : PackedRun). r.samples) c.self.view_is) c.requires
    c.self.invariant.1 in
    c.from_byte-back.ensures
    ∙ ap (λ (l : List Sample). let r : PackedRun =
    record { packing = packing_of i.format; samples = l } in r)
    (run-back (packing_of i.format) i.bytes.now i.first i.len c.args.n part.enough)
    ∙ ap (back_of c.args.n) c.self.view_is
