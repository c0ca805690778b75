use Rattle.std.proofs.Common.{◌≡◌, ℕ, ◌+◌, ◌*◌, ◌/◌, ◌<◌}
use Rattle.std.specs.Prelude.{true}
use Rattle.sample_planes.specs.CodedParts.{code_in}
use Rattle.sample_planes.specs.Packings.{packing_of, width_of, has_quadrature, has_sizes}
use Rattle.sample_planes.specs.Signs.{code_at}
use Rattle.sample_planes.proofs.parts.fill_parts.Given as goal

abbrev pub invariant-loop-w : goal.invariant-loop-w
invariant-loop-w l = record {
  in_phase : (i : ℕ) → i < 64 * l.w → code_at l.in_phase i
      ≡ code_in (has_sizes (packing_of l.fn.format)) l.near (width_of
      (packing_of l.fn.format) * (l.start + i) + 0);
  quadrature : has_quadrature (packing_of l.fn.format) ≡ true → (i : ℕ) → i < 64 * l.w
      → code_at l.quadrature i ≡ code_in (has_sizes (packing_of l.fn.format)) l.near (width_of
      (packing_of l.fn.format) * (l.start + i) + width_of (packing_of l.fn.format) / 2);
}
