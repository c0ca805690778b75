-- Worked examples of values in bytes, by the table of kinds in FORMATS. Each reading is twice the
-- value.
use Rattle.std.proofs.Common.{◌≡◌, ℕ, [], ◌∷◌, ◌++◌, refl, arith}
use Rattle.std.specs.Prelude.{pos, neg_ℤ, map, ℤ, List}
use Rattle.std.specs.List.{range_with_len}
use Rattle.recordings.specs.Readings.{reading, signed, sized, float_order, bits_of, IsNumber}
use Rattle.recordings.specs.declared.value_kind.ValueKind.{ValueKind}
use Rattle.recordings.specs.declared.value_kind.ValueKind.TheVariants.{U8, I8, I16, I16Be, F32}
use Rattle.recordings.specs.declared.value_kind.ValueKind.TheVariants.{Bits2Low, SignSizeLow}
use Rattle.recordings.specs.declared.value_kind.ValueKind.TheVariants.{Bits1Low, Bits1High}

-- the first count readings after some
abbrev readings : ValueKind → List ℕ → ℕ → ℕ → List ℤ
readings kind bytes from count = map (reading kind bytes) (range_with_len from count)

-- 0, 127, 128 and 255
bytes_without_sign : readings U8 (0 ∷ 127 ∷ 128 ∷ 255 ∷ []) 0 4
    ≡ pos 0 ∷ pos 254 ∷ pos 256 ∷ pos 510 ∷ []
unfolding reading
bytes_without_sign = refl

-- 0, 127, -128 and -1
bytes_with_sign : readings I8 (0 ∷ 127 ∷ 128 ∷ 255 ∷ []) 0 4
    ≡ pos 0 ∷ pos 254 ∷ neg_ℤ (pos 256) ∷ neg_ℤ (pos 2) ∷ []
unfolding reading signed
bytes_with_sign = refl

-- the low byte first: 0102, FFFE and 8000 hexadecimal are 258, -2 and -32768
low_byte_first : readings I16 (0x02 ∷ 0x01 ∷ 0xfe ∷ 0xff ∷ 0x00 ∷ 0x80 ∷ []) 0 3
    ≡ pos 516 ∷ neg_ℤ (pos 4) ∷ neg_ℤ (pos 65536) ∷ []
unfolding reading signed
low_byte_first = refl

-- the high byte first: 0201, FEFF and 0080 hexadecimal are 513, -257 and 128
high_byte_first : readings I16Be (0x02 ∷ 0x01 ∷ 0xfe ∷ 0xff ∷ 0x00 ∷ 0x80 ∷ []) 0 3
    ≡ pos 1026 ∷ neg_ℤ (pos 514) ∷ pos 256 ∷ []
unfolding reading signed
high_byte_first = refl

-- 0 is the first value of a byte, in its low bits. E4 hexadecimal has 0, 1, 2 and 3 from there on,
-- of two's complement 0, 1, -2 and -1, so 1, 3, -3 and -1; and as signs and sizes 1, 3, -1 and -3.
-- The byte before it has four values too
two_bits_low : readings Bits2Low (0x00 ∷ 0xe4 ∷ []) 3 5
    ≡ pos 2 ∷ pos 2 ∷ pos 6 ∷ neg_ℤ (pos 6) ∷ neg_ℤ (pos 2) ∷ []
unfolding reading signed
two_bits_low = refl

sign_and_size_low : readings SignSizeLow (0x00 ∷ 0xe4 ∷ []) 3 5
    ≡ pos 2 ∷ pos 2 ∷ pos 6 ∷ neg_ℤ (pos 2) ∷ neg_ℤ (pos 6) ∷ []
unfolding reading sized
sign_and_size_low = refl

-- 16 hexadecimal has bits 1, 2 and 4: from the low end values 1, 2 and 4 are -1, and from the high
-- end 3, 5 and 6. Each value of a byte FF before it is -1
one_bit_low : readings Bits1Low (0xff ∷ 0x16 ∷ []) 7 9
    ≡ neg_ℤ (pos 2) ∷ pos 2 ∷ neg_ℤ (pos 2) ∷ neg_ℤ (pos 2) ∷ pos 2 ∷ neg_ℤ (pos 2) ∷ pos 2
    ∷ pos 2 ∷ pos 2 ∷ []
unfolding reading
one_bit_low = refl

one_bit_high : readings Bits1High (0xff ∷ 0x16 ∷ []) 7 9
    ≡ neg_ℤ (pos 2) ∷ pos 2 ∷ pos 2 ∷ pos 2 ∷ neg_ℤ (pos 2) ∷ pos 2 ∷ neg_ℤ (pos 2)
    ∷ neg_ℤ (pos 2) ∷ pos 2 ∷ []
unfolding reading
one_bit_high = refl

-- floats, the low byte first, as integers that grow with them: minus infinity, -2, -1, -0, 0, 1 and
-- 1.5 are FF800000, C0000000, BF800000, 80000000, 00000000, 3F800000 and 3FC00000 hexadecimal
floats : readings F32 ((0x00 ∷ 0x00 ∷ 0x80 ∷ 0xff ∷ []) ++ (0x00 ∷ 0x00 ∷ 0x00 ∷ 0xc0 ∷ [])
    ++ (0x00 ∷ 0x00 ∷ 0x80 ∷ 0xbf ∷ []) ++ (0x00 ∷ 0x00 ∷ 0x00 ∷ 0x80 ∷ [])
    ++ (0x00 ∷ 0x00 ∷ 0x00 ∷ 0x00 ∷ []) ++ (0x00 ∷ 0x00 ∷ 0x80 ∷ 0x3f ∷ [])
    ++ (0x00 ∷ 0x00 ∷ 0xc0 ∷ 0x3f ∷ [])) 0 7
    ≡ neg_ℤ (pos 0x7f800000) ∷ neg_ℤ (pos 0x40000000) ∷ neg_ℤ (pos 0x3f800000) ∷ pos 0 ∷ pos 0
    ∷ pos 0x3f800000 ∷ pos 0x3fc00000 ∷ []
unfolding reading float_order
floats = refl

-- the bytes of a float aren't exchanged: 04030201 hexadecimal
bytes_of_float : readings F32 (0x01 ∷ 0x02 ∷ 0x03 ∷ 0x04 ∷ []) 0 1 ≡ pos 0x04030201 ∷ []
unfolding reading float_order
bytes_of_float = refl

-- infinities are numbers, and what is past them is none
infinity_is_number : IsNumber 0x7f800000
infinity_is_number = omega arith

minus_infinity_is_number : IsNumber 0xff800000
minus_infinity_is_number = omega arith

past_infinity_is_none : IsNumber 0x7f800001 → ⊥
past_infinity_is_none is = absurd (omega (arith, is))

past_minus_infinity_is_none : IsNumber 0xffc00000 → ⊥
past_minus_infinity_is_none is = absurd (omega (arith, is))

-- the bits of a value
widths : map bits_of (U8 ∷ I8 ∷ I16 ∷ I16Be ∷ F32 ∷ Bits2Low ∷ SignSizeLow ∷ Bits1Low ∷ Bits1High
    ∷ []) ≡ 8 ∷ 8 ∷ 16 ∷ 16 ∷ 32 ∷ 2 ∷ 2 ∷ 1 ∷ 1 ∷ []
widths = refl
