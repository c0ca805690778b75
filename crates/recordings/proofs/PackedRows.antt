-- Worked examples of signs, sizes and packed bytes, by the rules of FORMATS. Readings, centres and
-- thresholds are twice their values.
use Rattle.std.proofs.Common.{◌≡◌, ℕ, [], ◌∷◌, refl, arith}
use Rattle.std.specs.Prelude.{◌*◌, ◌%◌, pos, map, Bool, true, false}
use Rattle.sample_planes.specs.Packings.{packing_of}
use Rattle.sample_planes.specs.declared.format.Format.{Format}
use Rattle.sample_planes.specs.declared.format.Format.TheVariants.{Real1, Real2, Iq1, Iq2}
use Rattle.recordings.specs.Readings.{bits_of, reading, signed}
use Rattle.recordings.specs.Recordings.{sign_bit, size_bit, group_of, code_of, sample_of}
use Rattle.recordings.specs.Recordings.{samples_of, IsPacked}
use Rattle.recordings.specs.declared.value_kind.ValueKind.{ValueKind}
use Rattle.recordings.specs.declared.value_kind.ValueKind.TheVariants.{U8, I8, I16, F32, Bits2Low}
use Rattle.recordings.specs.declared.value_kind.ValueKind.TheVariants.{Bits1Low, Bits1High}
use Rattle.recordings.specs.declared.part.PartRecipe.{PartRecipe}
use Rattle.recordings.specs.declared.recipe.Recipe.{Recipe}
use Rattle.definitions.specs.Samples.{samples_per_byte, samples_from, sample}

-- ---- signs and sizes
abbrev about_128 : Bool → PartRecipe
about_128 turned = record { place = 0; centre = pos 256; is_turned = turned; near = omega arith }

-- below the centre 1, at it and above it 0: of 127.5, 128 and 128.5 about 128
signs : map (sign_bit (about_128 false)) (pos 255 ∷ pos 256 ∷ pos 257 ∷ []) ≡ 1 ∷ 0 ∷ 0 ∷ []
signs = refl

-- turned, the sign at the centre is 1
turned_signs : map (sign_bit (about_128 true)) (pos 255 ∷ pos 256 ∷ pos 257 ∷ []) ≡ 0 ∷ 1 ∷ 1 ∷ []
turned_signs = refl

-- farther than 20 from the centre 128, to both sides: not 108 and 148, but 107.5 and 148.5
sizes : map (size_bit (about_128 false) 40)
    (pos 215 ∷ pos 216 ∷ pos 256 ∷ pos 296 ∷ pos 297 ∷ []) ≡ 1 ∷ 0 ∷ 0 ∷ 0 ∷ 1 ∷ []
sizes = refl

-- the size isn't turned
turned_sizes : map (size_bit (about_128 true) 40)
    (pos 215 ∷ pos 216 ∷ pos 256 ∷ pos 296 ∷ pos 297 ∷ []) ≡ 1 ∷ 0 ∷ 0 ∷ 0 ∷ 1 ∷ []
turned_sizes = refl

-- with the threshold 0 only the centre has the size 0
no_threshold : map (size_bit (about_128 false) 0) (pos 255 ∷ pos 256 ∷ pos 257 ∷ [])
    ≡ 1 ∷ 0 ∷ 1 ∷ []
no_threshold = refl

-- ---- how many bytes of a recording become one
abbrev about_0 : ℕ → Bool → PartRecipe
about_0 place turned =
    record { place = place; centre = pos 0; is_turned = turned; near = omega arith }

-- samples of one value, and of two, with the threshold 20
abbrev of_values : (kind : ValueKind) (format : Format)
    → samples_per_byte (packing_of format) * (1 * bits_of kind) % 8 ≡ 0 → Recipe
of_values kind format whole = record {
  kind = kind;
  is_paired = false;
  format = format;
  threshold = 40;
  in_phase = about_0 0 false;
  quadrature = about_0 0 false;
  in_phase_is_there = omega arith;
  quadrature_is_there = omega arith;
  whole = whole;
}

abbrev of_pairs : (kind : ValueKind) (format : Format)
    → samples_per_byte (packing_of format) * (2 * bits_of kind) % 8 ≡ 0 → Recipe
of_pairs kind format whole = record {
  kind = kind;
  is_paired = true;
  format = format;
  threshold = 40;
  in_phase = about_0 0 false;
  quadrature = about_0 1 false;
  in_phase_is_there = omega arith;
  quadrature_is_there = omega arith;
  whole = whole;
}

-- samples in a byte, times values in a sample, times bits in a value, over 8
groups_of_values : map group_of (of_values U8 Real1 refl ∷ of_values I16 Real2 refl
    ∷ of_values Bits2Low Real2 refl ∷ of_values Bits1High Real1 refl ∷ []) ≡ 8 ∷ 8 ∷ 1 ∷ 1 ∷ []
groups_of_values = refl

groups_of_pairs : map group_of (of_pairs I8 Iq1 refl ∷ of_pairs I8 Iq2 refl ∷ of_pairs I16 Iq2 refl
    ∷ of_pairs Bits1Low Iq1 refl ∷ of_pairs F32 Real1 refl ∷ []) ≡ 8 ∷ 4 ∷ 8 ∷ 1 ∷ 64 ∷ []
groups_of_pairs = refl

-- ---- packed bytes. 251, 236, 235 and 255 are -5, -20, -21 and -1

-- 30 -5, -20 -21: 01 10, 10 11. A part of a sample is left out
packed_iq2 : IsPacked (of_pairs I8 Iq2 refl) (30 ∷ 251 ∷ 236 ∷ 235 ∷ 1 ∷ []) (0x6b ∷ [])
unfolding reading signed sample samples_from samples_of sample_of
packed_iq2 = record { whole = refl; same = refl }

codes_iq2 : map (code_of (of_pairs I8 Iq2 refl) (30 ∷ 251 ∷ 236 ∷ 235 ∷ [])) (0 ∷ 1 ∷ [])
    ≡ 6 ∷ 11 ∷ []
unfolding code_of reading signed
codes_iq2 = refl

-- the value in quadrature comes first, and its sign is turned: 10 11, 11 00
abbrev swapped_conjugate : Recipe
swapped_conjugate = record {
  kind = I8;
  is_paired = true;
  format = Iq2;
  threshold = 40;
  in_phase = about_0 1 false;
  quadrature = about_0 0 true;
  in_phase_is_there = omega arith;
  quadrature_is_there = omega arith;
  whole = refl;
}

packed_swapped : IsPacked swapped_conjugate (30 ∷ 251 ∷ 236 ∷ 235 ∷ []) (0xbc ∷ [])
unfolding reading signed sample samples_from samples_of sample_of
packed_swapped = record { whole = refl; same = refl }

-- 30 -5, -20 -21, 20 21, 0 -1: 01, 11, 00, 01
packed_iq1 : IsPacked (of_pairs I8 Iq1 refl) (30 ∷ 251 ∷ 236 ∷ 235 ∷ 20 ∷ 21 ∷ 0 ∷ 255 ∷ [])
    (0x71 ∷ [])
unfolding reading signed sample samples_from samples_of sample_of
packed_iq1 = record { whole = refl; same = refl }

-- one value a sample: 01 10 10 11, 00 01 00 10
packed_real2 : IsPacked (of_values I8 Real2 refl)
    (30 ∷ 251 ∷ 236 ∷ 235 ∷ 20 ∷ 21 ∷ 0 ∷ 255 ∷ []) (0x6b ∷ 0x12 ∷ [])
unfolding reading signed sample samples_from samples_of sample_of
packed_real2 = record { whole = refl; same = refl }

-- 0 1 1 1 0 0 0 1
packed_real1 : IsPacked (of_values I8 Real1 refl)
    (30 ∷ 251 ∷ 236 ∷ 235 ∷ 20 ∷ 21 ∷ 0 ∷ 255 ∷ []) (0x71 ∷ [])
unfolding reading signed sample samples_from samples_of sample_of
packed_real1 = record { whole = refl; same = refl }

-- of pairs the part in quadrature alone, -5, -21, 21 and -1: 10 11 01 10
abbrev in_quadrature : Recipe
in_quadrature = record {
  kind = I8;
  is_paired = true;
  format = Real2;
  threshold = 40;
  in_phase = about_0 1 false;
  quadrature = about_0 1 false;
  in_phase_is_there = omega arith;
  quadrature_is_there = omega arith;
  whole = refl;
}

packed_part : IsPacked in_quadrature (30 ∷ 251 ∷ 236 ∷ 235 ∷ 20 ∷ 21 ∷ 0 ∷ 255 ∷ []) (0xb6 ∷ [])
unfolding reading signed sample samples_from samples_of sample_of
packed_part = record { whole = refl; same = refl }

-- bits that are the earliest at the low end are turned round, 0 1 1 0 1 0 0 0, and others stay
packed_bits_low : IsPacked (of_values Bits1Low Real1 refl) (0x16 ∷ []) (0x68 ∷ [])
unfolding reading sample samples_from samples_of sample_of
packed_bits_low = record { whole = refl; same = refl }

packed_bits_high : IsPacked (of_values Bits1High Real1 refl) (0x16 ∷ []) (0x16 ∷ [])
unfolding reading sample samples_from samples_of sample_of
packed_bits_high = record { whole = refl; same = refl }
