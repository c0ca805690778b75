-- Numbers by their halves of sixteen bits, in lanes that stand in another order.
use Rattle.std.specs.Prelude.{◌≡◌, ℕ, ℤ, pos, ◌-ℤ◌, ◌<◌, List, slice_index, get_or}
use Rattle.oscillators.specs.declared.carries.TheConstants.{ORDER, HALF}

-- a half as it stands in a lane
abbrev pub signed_half : ℕ → ℤ
signed_half half = pos half -ℤ pos 32768

-- the room of each lane is a half
pub record AreRooms (room : ℕ → ℕ) (rooms : List ℤ) : Type 0 where
  pub below : (k : ℕ) → k < 64 → room k < HALF
  pub lanes : (k : ℕ) → k < 64 → get_or rooms k (pos 0) ≡ signed_half (room k)

-- where the number of lane k stands
abbrev pub place : ℕ → ℕ
place k = slice_index ORDER k
