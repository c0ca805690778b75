-- The values of a recording, by the kinds in which people have them, as integers.
use Rattle.std.specs.Prelude.{ℕ, ◌+◌, ◌-◌, ◌*◌, ◌/◌, ◌%◌, ◌^◌, ℤ, pos, ◌*ℤ◌, ◌+ℤ◌, ◌-ℤ◌, neg_ℤ}
use Rattle.std.specs.Prelude.{◌≡◌, ◌≤◌, Bool, true, false}
use Rattle.std.specs.Prelude.{List, length, slice_index, nat_lt, if◌then◌else◌}
use Rattle.std.specs.Int.{bit_at}
use Rattle.definitions.specs.Samples.{sign_of, bit_in}
use Rattle.recordings.specs.declared.value_kind.ValueKind.{ValueKind}
use Rattle.recordings.specs.declared.value_kind.ValueKind.TheVariants.{U8, I8, I16, I16Be, F32}
use Rattle.recordings.specs.declared.value_kind.ValueKind.TheVariants.{Bits2Low, SignSizeLow}
use Rattle.recordings.specs.declared.value_kind.ValueKind.TheVariants.{Bits1Low, Bits1High}

-- how many bits a value has
abbrev pub bits_of : ValueKind → ℕ
bits_of U8 = 8
bits_of I8 = 8
bits_of I16 = 16
bits_of I16Be = 16
bits_of F32 = 32
bits_of Bits2Low = 2
bits_of SignSizeLow = 2
bits_of Bits1Low = 1
bits_of Bits1High = 1

-- the number of two bytes of which the low one is named first, and that of four in a row
abbrev pub two_bytes : ℕ → ℕ → ℕ
two_bytes low high = low + 256 * high

abbrev pub four_bytes : List ℕ → ℕ → ℕ
four_bytes bytes at =
    two_bytes (slice_index bytes at) (slice_index bytes (at + 1))
    + 65536 * two_bytes (slice_index bytes (at + 2)) (slice_index bytes (at + 3))

-- a number of two's complement: from the half of its range on it stands for one below zero
unfoldable pub signed : ℕ → ℕ → ℤ
signed half n = if nat_lt n half then pos n else pos n -ℤ pos (2 * half)

-- two bits, a sign above a size that is 1 for 0 and 3 for 1
unfoldable pub sized : ℕ → ℤ
sized bits = sign_of (bits / 2) *ℤ pos (1 + 2 * (bits % 2))

-- the bits of a float as an integer that grows with it: its highest bit is the sign of the rest
unfoldable pub float_order : ℕ → ℤ
float_order bits = if nat_lt bits (2 ^ 31) then pos bits else neg_ℤ (pos (bits - 2 ^ 31))

-- Value number i of bytes as an integer: twice the value, so that the middle of unsigned bytes,
-- 127.5, is one too. The value of a float is an integer that grows with it.
unfoldable pub reading : ValueKind → List ℕ → ℕ → ℤ
reading U8 bytes i = pos (2 * slice_index bytes i)
reading I8 bytes i = pos 2 *ℤ signed 128 (slice_index bytes i)
reading I16 bytes i =
    pos 2
    *ℤ signed 32768 (two_bytes (slice_index bytes (2 * i)) (slice_index bytes (2 * i + 1)))
reading I16Be bytes i =
    pos 2
    *ℤ signed 32768 (two_bytes (slice_index bytes (2 * i + 1)) (slice_index bytes (2 * i)))
reading F32 bytes i = float_order (four_bytes bytes (4 * i))
reading Bits2Low bytes i =
    pos 2 *ℤ (pos 2 *ℤ signed 2 (slice_index bytes (i / 4) / 2 ^ (2 * (i % 4)) % 4) +ℤ pos 1)
reading SignSizeLow bytes i =
    pos 2 *ℤ sized (slice_index bytes (i / 4) / 2 ^ (2 * (i % 4)) % 4)
reading Bits1Low bytes i = pos 2 *ℤ sign_of (bit_at (slice_index bytes (i / 8)) (i % 8))
reading Bits1High bytes i = pos 2 *ℤ sign_of (bit_in bytes i)

-- a float is a number unless all bits of its exponent are set and one after them
abbrev pub IsNumber : ℕ → Type 0
IsNumber bits = bits % 2 ^ 31 ≤ 0x7f80_0000

-- whether the values of a kind may be none
abbrev pub has_nans : ValueKind → Bool
has_nans U8 = false
has_nans I8 = false
has_nans I16 = false
has_nans I16Be = false
has_nans F32 = true
has_nans Bits2Low = false
has_nans SignSizeLow = false
has_nans Bits1Low = false
has_nans Bits1High = false

-- each whole float of bytes is a number
abbrev pub AreNumbers : ValueKind → List ℕ → Type 0
AreNumbers kind bytes =
    has_nans kind ≡ true → (i : ℕ) → 4 * (i + 1) ≤ length bytes → IsNumber (four_bytes bytes (4 *
    i))
