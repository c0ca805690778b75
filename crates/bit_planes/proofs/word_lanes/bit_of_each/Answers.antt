use Rattle.std.proofs.Common.{◌^◌, ◌*◌, ◌%◌, ◌∙◌, ℕ, List, get_or, refl, lit≤}
use Rattle.std.specs.Prelude.{not, eqb, bit_and, replicate}
use Rattle.std.specs.Simd.Lanes.{zip2}
use Rattle.std.proofs.lemmas.List.{get_or-replicate}
use Rattle.bit_planes.proofs.LaneLemmas.{compared_bit, masked_one, mask_is, masked_long}
use Rattle.bit_planes.proofs.LaneLemmas.{masked_lane}
use Rattle.bit_planes.proofs.word_lanes.bit_of_each.Goals as goal

pub returns : goal.returns
returns c k h =
    let bytes : List ℕ = c.args.bytes in
    let mask : ℕ = 1 * 2 ^ c.args.number % 256 in
    compared_bit 64 (λ (a b : ℕ). not (eqb a b)) (zip2 bit_and bytes (replicate 64 mask))
    (replicate 64 0) k (masked_long bytes mask c.requires.bytes) refl (lit≤ tt) h
    ∙ rw (masked_lane bytes mask k c.requires.bytes h, get_or-replicate {A = ℕ} 64 k 0 0 h)
    (masked_one (get_or bytes k 0) mask c.args.number (mask_is c.args.number c.requires.number))
