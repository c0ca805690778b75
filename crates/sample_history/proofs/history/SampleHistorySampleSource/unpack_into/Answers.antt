use Rattle.std.proofs.Common.{◌≡◌, ℕ, ◌+◌, ◌-◌, ◌*◌, ◌/◌, ◌%◌, ◌∙◌, ap, arith}
use Rattle.definitions.specs.Samples.{samples_from, sample, bit_in}
use Rattle.sample_planes.specs.Packings.{width_of}
use Rattle.sample_planes.proofs.BitLemmas.{same_sample}
use Rattle.sample_planes.proofs.PlaneLemmas.{runs_agree, sample_near}
use Rattle.sample_history.specs.Histories.{first_of, bytes_of, held_in, packing_in}
use Rattle.sample_history.proofs.PlaceLemmas.{width_from}
use Rattle.sample_history.proofs.history.SampleHistorySampleSource.unpack_into.Goals as goal

pub returns : goal.returns
unfolding samples_from
returns c =
    let h = c.args.self.now in
    let packing = packing_in h in
    let per : ℕ = c.per_byte-per_byte.result in
    let near = c.put_bytes.new.near in
    let place : ℕ = c.args.n - c.first.result in
    c.fill.ensures
    ∙ runs_agree (sample packing near) (held_in h) (place % per) c.args.n c.args.len (λ i inside.
    let there : c.args.n - c.first.result + i ≡ c.args.n + i - first_of h =
    rw c.first.ensures (omega (arith, c.requires.first)) in
    same_sample packing near (bytes_of h) (place % per + i) (c.args.n + i - first_of h) (λ k bit.
    sample_near packing near (bytes_of h) per (8 / per) place c.args.len k i
    c.per_byte-per_byte.ensures (width_from packing per c.per_byte-per_byte.ensures)
    c.put_bytes.ensures.bytes bit inside
    ∙ ap (λ (m : ℕ). bit_in (bytes_of h) (width_of packing * m + k)) there))
