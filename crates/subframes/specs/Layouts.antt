-- Lines of the code's tables in the words of the definitions, and those that can be read a word at
-- a time.
use Rattle.std.specs.Prelude.{ℕ, ◌+◌, ◌-◌, ◌/◌, ◌%◌, ◌==◌, ◌&&◌, Bool, nat_le, nat_lt, sum_by, List}
use Rattle.std.specs.Prelude.{[], ◌∷◌, map, Option, Some, None}
use Rattle.std.specs.Int.Digits.{number_from_digits}
use Rattle.std.specs.List.{list_all}
use Rattle.definitions.specs.Frames.{Subframe}
use Rattle.definitions.specs.Fields as fields
use Rattle.definitions.specs.Fields.{bit_at_place, places_of, all_places}
use Rattle.subframes.specs.declared.layout.Bits.{Bits}
use Rattle.subframes.specs.declared.layout.Layout.{Layout}

abbrev pub bits_in : Bits → fields.Bits
bits_in b = record { first = b.first; last = b.last }

abbrev pub parts_in : Bits → Option Bits → List fields.Bits
parts_in head None = bits_in head ∷ []
parts_in head (Some tail) = bits_in head ∷ bits_in tail ∷ []

abbrev pub layout_in : Layout → fields.Field
layout_in l = record {
  name = l.name.now;
  parts = parts_in l.head l.tail;
  is_signed =
      l.is_signed;
  exponent = l.exponent;
}

abbrev pub size_of : fields.Bits → ℕ
size_of b = b.last + 1 - b.first

-- whether bits of a subframe are data bits of one word
abbrev pub is_in_one_word : fields.Bits → Bool
is_in_one_word b = nat_le 1 b.first && nat_le b.first b.last && nat_le b.last 300
    && ((b.first - 1) / 30 == (b.last - 1) / 30) && nat_lt ((b.last - 1) % 30) 24

-- whether each part of a field is in one word, and at most 32 bits are in all of them
abbrev pub is_readable : fields.Field → Bool
is_readable f = list_all is_in_one_word f.parts && nat_le (sum_by size_of f.parts) 32

-- the number that the places of one part write, and that of all parts
unfoldable pub number_of_bits : Subframe → fields.Bits → ℕ
number_of_bits s b = number_from_digits 2 (map (bit_at_place s) (places_of b))

unfoldable pub number_of_parts : Subframe → fields.Field → ℕ
number_of_parts s f = number_from_digits 2 (map (bit_at_place s) (all_places f))
