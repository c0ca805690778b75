-- Sets of chips, in lanes.
use Rattle.std.specs.Prelude.{◌≡◌, ℕ, ◌+◌, ◌/◌, List, length, get_or, slice_index, bit_xor, []}
use Rattle.oscillators.specs.declared.chip_set.ChipSet.{ChipSet}

pub record IsLong (c : ChipSet) : Type 0 where
  pub further : length c.further ≡ 64
  pub turns : length c.turns ≡ 64

-- lane k has the chip of the half chip after this one, and what makes of it the chip of this one
pub record IsSetOf (half k : ℕ) (c : ChipSet) : Type 0 where
  pub further : slice_index c.further k ≡ (half + 1) / 2
  pub turn : slice_index c.turns k ≡ bit_xor ((half + 1) / 2) (half / 2)

-- one of several sets
abbrev pub set_in : List ChipSet → ℕ → ChipSet
set_in sets n = get_or sets n (record { further = []; turns = [] })
