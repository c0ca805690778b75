use Rattle.std.proofs.Common.{◌≡◌, ◌∙◌, sym}
use Rattle.std.specs.Prelude.{map}
use Rattle.std.specs.List.{range_with_len}
use Rattle.definitions.specs.Samples.{samples_from, sample}
use Rattle.sample_planes.specs.Packings.{packing_of}
use Rattle.sample_planes.specs.Signs.{sample_in, AreOneBit}
use Rattle.sample_planes.proofs.PlaneLemmas.{run_filled, run_one_bit}
use Rattle.sample_planes.proofs.planes.Planes.fill_from_many.Goals as goal

same : (c : goal.After-self-3-1)
    → map (sample_in c.fill_parts.new.in_phase c.has_quadrature-self-inside.result
    c.fill_parts.new.quadrature) (range_with_len 0 c.args.len)
    ≡ map (sample (packing_of c.args.format) c.args.near.now)
    (range_with_len c.args.start c.args.len)
same c = run_filled (packing_of c.args.format) c.args.near.now c.args.start c.args.len
    c.has_quadrature-self-inside.result c.fill_parts.new.in_phase c.fill_parts.new.quadrature
    c.has_quadrature-self-inside.ensures c.fill_parts.ensures.in_phase
    c.fill_parts.ensures.quadrature

pub invariant_of-self : goal.invariant_of-self
unfolding AreOneBit
invariant_of-self c = (
  c.requires.short,
  λ none i inside.
      run_one_bit (packing_of c.args.format) c.args.near.now
      (sample_in c.fill_parts.new.in_phase c.has_quadrature-self-inside.result
      c.fill_parts.new.quadrature) c.args.start
      c.args.len i (same c) (sym c.has_sizes-self-inside.ensures ∙ none) inside,
)

pub returns : goal.returns
unfolding samples_from
returns c = same c
