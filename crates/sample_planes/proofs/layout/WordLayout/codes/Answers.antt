use Rattle.std.proofs.Common.{◌≡◌, ◌+◌, ◌-◌, ◌*◌, ◌%◌, ◌<◌, ◌∙◌, ℕ, ap, arith, get_or}
use Rattle.definitions.specs.Samples.{bit_in}
use Rattle.sample_planes.proofs.CodeLemmas.{sum_lane, code_with, code_without, bit_small}
use Rattle.sample_planes.proofs.LayoutLemmas.{bit_there}
use Rattle.sample_planes.proofs.layout.WordLayout.codes.Goals as goal
use Rattle.sample_planes.proofs.layout.WordLayout.codes.Goals.{then-has_sizes, else-has_sizes}

pub returns-clause-codes : goal.returns-clause-codes
returns-clause-codes c width start w near l inside size bytes j h =
    let at : ℕ = c.args.at in
    let place : ℕ = width * (start + 64 * w + j) + at in
    let four : get_or c.marked_bytes-signs.result (63 - j) 0 ≡ bit_in near place * 4 =
    c.marked_bytes-signs.ensures.lanes (63 - j) (7 - (width * (start + j) + at) % 8) (omega arith)
    (c.masks.ensures.masks width start l inside j h)
    ∙ bit_there near width at start w j _ 4 l.is_width inside h (bytes j h) in
    elim c.if-has_sizes.branch [
      | then-has_sizes b ↦
          let room : at + 1 < width = size b.if-has_sizes.true in
          let next : width * (start + 64 * w + j) + (at + 1) ≡ place + 1 = omega arith in
          let eight : get_or b.marked_bytes.result (63 - j) 0 ≡ bit_in near (place + 1) * 8 =
          b.marked_bytes.ensures.lanes (63 - j) (7 - (width * (start + j) + (at + 1)) % 8)
          (omega arith) (b.masks-then-has_sizes.ensures.masks width start l room j h)
          ∙ bit_there near width (at + 1) start w j _ 8 l.is_width room h (bytes j h)
          ∙ ap (λ (p : ℕ). bit_in near p * 8) next in
          rw b.result-is (code_with c.args.has_sizes near place _ b.if-has_sizes.true
          (sum_lane c.marked_bytes-signs.result b.marked_bytes.result (bit_in near place)
          (bit_in near (place + 1)) (63 - j) c.marked_bytes-signs.ensures.long
          b.marked_bytes.ensures.long (omega arith) four eight (bit_small near place)
          (bit_small near (place + 1))))
      | else-has_sizes b ↦
          rw b.result-is (code_without c.args.has_sizes near place _ b.if-has_sizes.false four)
    ]
