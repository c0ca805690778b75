-- Worked examples of the six equations of the parity.
use Rattle.std.proofs.Common.{◌≡◌, refl}
use Rattle.std.specs.Prelude.{Some, map, replicate, ◌-◌, ◌^◌, ◌∷◌}
use Rattle.definitions.specs.Parity.{checked_data, data_of, holds, passes}
use Rattle.std.specs.List.{range_with_len}
use Rattle.std.proofs.Common.{[]}

-- one bit of data alone is 1, d1 to d24 in turn. A program apart has worked out the last six bits
-- by the equations of section 20.3.5
one_bit_each : map (λ word. checked_data word 0) (
    0x2000002a ∷ 0x10000034 ∷ 0x0800003b ∷ 0x0400001c ∷ 0x0200002f ∷ 0x01000037 ∷ 0x0080001a ∷
    0x0040000d ∷ 0x00200007 ∷ 0x00100023 ∷ 0x00080031 ∷ 0x00040038 ∷ 0x0002003d ∷ 0x0001003e ∷
    0x0000801f ∷ 0x0000400e ∷ 0x00002026 ∷ 0x00001032 ∷ 0x00000819 ∷ 0x0000042c ∷ 0x00000216 ∷
    0x0000010b ∷ 0x000000a5 ∷ 0x00000053 ∷ [])
    ≡ map (λ i. Some (2 ^ (23 - i))) (range_with_len 0 24)
unfolding checked_data passes holds data_of
one_bit_each = refl

-- the same data after each of the four pairs of last bits, by that program
after_each_pair : map (λ (word, prior). checked_data word prior) ((0x2af37be6, 0) ∷ (0x150c8430, 1)
    ∷ (0x2af37bcf, 2) ∷ (0x150c8419, 3) ∷ []) ≡ replicate 4 (Some 0xabcdef)
unfolding checked_data passes holds data_of
after_each_pair = refl
