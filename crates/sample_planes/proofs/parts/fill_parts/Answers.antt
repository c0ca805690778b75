use Rattle.std.proofs.Common.{◌≡◌, ◌+◌, ◌*◌, ◌/◌, ◌<◌, ◌∙◌, ℕ, ap, sym, arith}
use Rattle.std.specs.Prelude.{false}
use Rattle.sample_planes.specs.Packings.{packing_of, width_of, has_quadrature, has_sizes}
use Rattle.sample_planes.specs.Signs.{code_at}
use Rattle.sample_planes.proofs.CodeLemmas.{is_code_in}
use Rattle.sample_planes.proofs.CodedWords.{is_word, next_word, code_of_part}
use Rattle.sample_planes.proofs.PlaneLemmas.{first_part, second_part}
use Rattle.sample_planes.proofs.PlaneLemmas.{in_phase_by_parts, quadrature_by_parts}
use Rattle.sample_planes.proofs.parts.fill_parts.Goals as goal
use Rattle.sample_planes.proofs.parts.fill_parts.Goals.{then-is_complex, else-is_complex}

pub put-requires-clause-codes : goal.put-requires-clause-codes
put-requires-clause-codes c = (is_word (packing_of c.args.format) 0 0 c.args.start c.loop-w.w
    c.width-width.result c.has_sizes-has_sizes.result c.new-layout.result c.args.near.now
    c.bytes-bytes.result c.codes.result (first_part (packing_of c.args.format))
    c.width-width.ensures c.has_sizes-has_sizes.ensures (λ i. 0) c.new-layout.ensures
    c.bytes-bytes.ensures.bytes c.codes.ensures.codes).each

pub put-requires-then-is_complex-clause-codes : goal.put-requires-then-is_complex-clause-codes
put-requires-then-is_complex-clause-codes c =
    let packing = packing_of c.args.format in
    (is_word packing (width_of packing / 2) (c.width-width.result / 2) c.args.start c.loop-w.w
    c.width-width.result c.has_sizes-has_sizes.result c.new-layout.result c.args.near.now
    c.bytes-bytes.result c.codes-then-is_complex.result
    (second_part packing (sym c.has_quadrature-is_complex.ensures ∙ c.if-is_complex.true))
    c.width-width.ensures c.has_sizes-has_sizes.ensures
    (ap (λ (n : ℕ). n / 2) c.width-width.ensures) c.new-layout.ensures c.bytes-bytes.ensures.bytes
    c.codes-then-is_complex.ensures.codes).each

pub loop-w-preserved : goal.loop-w-preserved
loop-w-preserved c =
    let packing = packing_of c.args.format in
    let word = is_word packing 0 0 c.args.start c.loop-w.w c.width-width.result
    c.has_sizes-has_sizes.result c.new-layout.result c.args.near.now c.bytes-bytes.result
    c.codes.result (first_part packing) c.width-width.ensures c.has_sizes-has_sizes.ensures
    (λ i. 0) c.new-layout.ensures c.bytes-bytes.ensures.bytes c.codes.ensures.codes in
    record {
      in_phase = next_word (code_at c.loop-w.in_phase) (code_at c.put.new.self)
          (λ i. code_of_part packing 0 c.args.near.now (c.args.start + i)) c.codes.result c.loop-w.w
          c.loop-w.invariant.in_phase c.put.ensures.kept c.put.ensures.there word.codes;
      quadrature = λ there. elim c.if-is_complex.branch [
        | then-is_complex b ↦
            let second = is_word packing (width_of packing / 2) (c.width-width.result / 2)
            c.args.start c.loop-w.w c.width-width.result c.has_sizes-has_sizes.result
            c.new-layout.result c.args.near.now c.bytes-bytes.result b.codes-then-is_complex.result
            (second_part packing there) c.width-width.ensures c.has_sizes-has_sizes.ensures
            (ap (λ (n : ℕ). n / 2) c.width-width.ensures) c.new-layout.ensures
            c.bytes-bytes.ensures.bytes b.codes-then-is_complex.ensures.codes in
            rw b.quadrature-is (next_word (code_at c.loop-w.quadrature)
            (code_at b.put-then-is_complex.new.self)
            (λ i. code_of_part packing (width_of packing / 2) c.args.near.now (c.args.start + i))
            b.codes-then-is_complex.result c.loop-w.w (c.loop-w.invariant.quadrature there)
            b.put-then-is_complex.ensures.kept b.put-then-is_complex.ensures.there second.codes)
        | else-is_complex b ↦
            let none : has_quadrature packing ≡ false =
            sym c.has_quadrature-is_complex.ensures ∙ b.if-is_complex.false in
            λ i below. cc
      ];
    }

pub returns-clause-in_phase : goal.returns-clause-in_phase
returns-clause-in_phase c i h =
    let packing = packing_of c.args.format in
    let behind : i < 64 * c.loop-w.w = omega arith in
    rw (c.loop-w.invariant.in_phase i behind)
    ((is_code_in (has_sizes packing) c.args.near.now
    (width_of packing * (c.args.start + i) + 0)).part
    ∙ sym (in_phase_by_parts packing c.args.near.now (c.args.start + i)))

pub returns-clause-quadrature : goal.returns-clause-quadrature
returns-clause-quadrature c there i h =
    let packing = packing_of c.args.format in
    let behind : i < 64 * c.loop-w.w = omega arith in
    rw (c.loop-w.invariant.quadrature there i behind)
    ((is_code_in (has_sizes packing) c.args.near.now
    (width_of packing * (c.args.start + i) + width_of packing / 2)).part
    ∙ sym (quadrature_by_parts packing c.args.near.now (c.args.start + i) there))
