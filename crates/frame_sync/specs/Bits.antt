-- What stands at places of a window: a number of 64 bits, the newest of them lowest.
use Rattle.std.specs.Prelude.{ℕ, ◌+◌, ◌/◌, ◌%◌, ◌^◌, ◌==◌, ◌&&◌, ◌||◌, Bool, List, ◌∷◌, map}
use Rattle.std.specs.Prelude.{replicate, Option, None}
use Rattle.std.specs.Int.Digits.{number_from_digits}
use Rattle.definitions.specs.Parity.{checked_data}
use Rattle.definitions.specs.Frames.{bit_number, is_header}

-- the number that bits write, the last of them lowest
unfoldable pub number_of : List Bool → ℕ
number_of bits = number_from_digits 2 (map bit_number bits)

-- the number that some bits of a window write, the last of which came this many bits before the
-- newest of all
abbrev pub bits_in : ℕ → ℕ → ℕ → ℕ
bits_in window behind count = window / 2 ^ behind % 2 ^ count

-- the data of the word that ends this many bits before the newest, where it passes with the two
-- bits before it
unfoldable pub word_in : ℕ → ℕ → Option ℕ
word_in window behind = checked_data (bits_in window behind 30) (bits_in window (behind + 30) 2)

-- the two bits before the newest 60 are equal, and the last two are the same
abbrev pub is_framed_in : ℕ → Bool
is_framed_in window =
    ((bits_in window 60 2 == 0) || (bits_in window 60 2 == 3))
    && (bits_in window 0 2 == bits_in window 60 2)

-- the newest 60 bits are a header
unfoldable pub has_header_in : ℕ → Bool
has_header_in window =
    is_header (bits_in window 60 2) (word_in window 30) (word_in window 0) (bits_in window 0 2)

-- ten words, of which the newest 60 bits are the first two
abbrev pub header_words_in : ℕ → List (Option ℕ)
header_words_in window = word_in window 30 ∷ word_in window 0 ∷ replicate 8 None
