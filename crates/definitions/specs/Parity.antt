-- The parity of a word of navigation data, IS-GPS-200, section 20.3.5. D1 .. D30 are the bits of a
-- word as they are sent; D1 is sent first, and is the highest. D29* and D30* are the last two bits
-- of the word before; as a number, 2 * D29* + D30*, they are `prior`.
use Rattle.std.specs.Prelude.{ℕ, ◌+◌, ◌-◌, ◌%◌, ◌==◌, Bool, List, [], ◌∷◌, map, sum_by}
use Rattle.std.specs.Prelude.{if◌then◌else◌, Option, Some, None}
use Rattle.std.specs.Int.{bit_at}
use Rattle.std.specs.Int.Digits.{number_from_digits}
use Rattle.std.specs.List.{list_all, range_with_len}

-- D_i of a word; of a prior, D29* at 29 and D30* at 30
abbrev pub word_bit : ℕ → ℕ → ℕ
word_bit word i = bit_at word (30 - i)

-- d_i, the bit of the data before it is sent: D_i + D30*, modulo 2
abbrev pub data_bit : ℕ → ℕ → ℕ → ℕ
data_bit word prior i = (word_bit word i + word_bit prior 30) % 2

-- an equation of table 20-XIV: the parity bit at a place is the sum, modulo 2, of D29* or D30*
-- (star is 29 or 30) and of these d_i
pub record Equation : Type 0 where
  pub place : ℕ
  pub star : ℕ
  pub data_places : List ℕ

abbrev pub equations : List Equation
equations = record {
  place = 25;
  star = 29;
  data_places =
      1 ∷ 2 ∷ 3 ∷ 5 ∷ 6 ∷ 10 ∷ 11 ∷ 12 ∷ 13 ∷ 14 ∷ 17 ∷ 18 ∷ 20 ∷ 23 ∷ [];
}
    ∷ record {
      place = 26;
      star = 30;
      data_places =
          2 ∷ 3 ∷ 4 ∷ 6 ∷ 7 ∷ 11 ∷ 12 ∷ 13 ∷ 14 ∷ 15 ∷ 18 ∷ 19 ∷ 21 ∷ 24 ∷ [];
    }
    ∷ record {
      place = 27;
      star = 29;
      data_places =
          1 ∷ 3 ∷ 4 ∷ 5 ∷ 7 ∷ 8 ∷ 12 ∷ 13 ∷ 14 ∷ 15 ∷ 16 ∷ 19 ∷ 20 ∷ 22 ∷ [];
    }
    ∷ record {
      place = 28;
      star = 30;
      data_places =
          2 ∷ 4 ∷ 5 ∷ 6 ∷ 8 ∷ 9 ∷ 13 ∷ 14 ∷ 15 ∷ 16 ∷ 17 ∷ 20 ∷ 21 ∷ 23 ∷ [];
    }
    ∷ record {
      place = 29;
      star = 30;
      data_places =
          1 ∷ 3 ∷ 5 ∷ 6 ∷ 7 ∷ 9 ∷ 10 ∷ 14 ∷ 15 ∷ 16 ∷ 17 ∷ 18 ∷ 21 ∷ 22 ∷ 24 ∷ [];
    }
    ∷ record {
      place = 30;
      star = 29;
      data_places =
          3 ∷ 5 ∷ 6 ∷ 8 ∷ 9 ∷ 10 ∷ 11 ∷ 13 ∷ 15 ∷ 19 ∷ 22 ∷ 23 ∷ 24 ∷ [];
    }
    ∷ []

-- the parity bit that an equation gives for data d_1 .. d_24
abbrev pub parity_bit : (ℕ → ℕ) → ℕ → Equation → ℕ
parity_bit d prior e = (word_bit prior e.star + sum_by d e.data_places) % 2

unfoldable pub holds : ℕ → ℕ → Equation → Bool
holds word prior e = word_bit word e.place == parity_bit (data_bit word prior) prior e

-- all six equations hold
unfoldable pub passes : ℕ → ℕ → Bool
passes word prior = list_all (holds word prior) equations

-- the number that d1 .. d24 write, d1 the highest
unfoldable pub data_of : ℕ → ℕ → ℕ
data_of word prior = number_from_digits 2 (map (data_bit word prior) (range_with_len 1 24))

-- the data of a word that passes
unfoldable pub checked_data : ℕ → ℕ → Option ℕ
checked_data word prior = if passes word prior then Some (data_of word prior) else None
