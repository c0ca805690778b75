-- Bytes read from any bit of other bytes on.
use Rattle.std.specs.Prelude.{ℕ, ◌+◌, ◌-◌, ◌*◌, ◌/◌, ◌%◌, ◌^◌, List, ◌∷◌, ◌++◌, map}
use Rattle.std.specs.Prelude.{slice_index}
use Rattle.std.specs.List.{range_with_len}

-- the eight bits of two bytes from a bit on, which is counted from the top one
unfoldable pub eight_bits : ℕ → ℕ → ℕ → ℕ
eight_bits high low place = (high * 256 + low % 256) / 2 ^ (8 - place) % 256

-- the eight bits of bytes from a bit on; after the bytes there are zeros
unfoldable pub byte_from : List ℕ → ℕ → ℕ
byte_from bytes place =
    eight_bits (slice_index bytes (place / 8)) (slice_index bytes (place / 8 + 1)) (place % 8)

-- a number of bytes, which are the bits of others from one on
unfoldable pub bytes_from : List ℕ → ℕ → ℕ → List ℕ
bytes_from bytes place count = map (λ k. byte_from bytes (place + 8 * k)) (range_with_len 0 count)

-- the first bits of one byte, as many as are said, and after them the first ones of another
unfoldable pub byte_of_two : ℕ → ℕ → ℕ → ℕ
byte_of_two before behind count = (before / 2 ^ (8 - count) * 256 + behind % 256) / 2 ^ count % 256

-- bytes, then a byte whose first bits stay, as many as are said, filled up from bit `start` of
-- others on, and then so many bytes of the bits that follow
abbrev pub with_bits_behind : List ℕ → ℕ → ℕ → List ℕ → ℕ → ℕ → List ℕ
with_bits_behind ring begun used bytes start whole =
    ring
    ++ (byte_of_two begun (byte_from bytes start) used ∷ bytes_from bytes (start + 8 - used) whole)
