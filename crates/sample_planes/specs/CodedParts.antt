-- Codes of the parts of samples, and where they stand in an array, each 64 of them in falling
-- order.
use Rattle.std.specs.Prelude.{ℕ, ◌+◌, ◌-◌, ◌*◌, ◌/◌, ◌%◌, List, Bool, true, false}
use Rattle.definitions.specs.Samples.{bit_in}

-- where the code of sample i stands
abbrev pub lane_of : ℕ → ℕ
lane_of i = 64 * (i / 64) + (63 - i % 64)

-- the code of the part that the bits of bytes write from a place on, with a size after its sign or
-- without
unfoldable pub code_in : Bool → List ℕ → ℕ → ℕ
code_in false bytes place = bit_in bytes place * 4
code_in true bytes place = bit_in bytes place * 4 + bit_in bytes (place + 1) * 8
