-- The ways from the first of 64 samples to the others, lane k standing for sample 63 - k.
use Rattle.std.specs.Prelude.{ℕ, ◌+◌, ◌-◌, ◌*◌, ◌/◌, ◌%◌, ◌^◌}

-- the way to the sample of lane k
abbrev pub way_to : ℕ → ℕ → ℕ
way_to step k = (63 - k) * step

-- the whole chips to the window of lane k, from the chip of the first sample on
abbrev pub window_of : ℕ → ℕ → ℕ
window_of step k = (48 - 16 * (k / 16)) * step / 2 ^ 32

-- the room that the way to a lane's sample leaves in a half chip
abbrev pub room_of : ℕ → ℕ → ℕ
room_of step k = 2 ^ 31 - 1 - way_to step k % 2 ^ 31

-- the whole half chips from the window of lane k on, where the first sample begins a chip
abbrev pub half_to : ℕ → ℕ → ℕ
half_to step k = way_to step k / 2 ^ 31 - 2 * window_of step k

-- and where the first sample lies this far in its chip
abbrev pub half_at : ℕ → ℕ → ℕ → ℕ
half_at part step k = (part + way_to step k) / 2 ^ 31 - 2 * window_of step k
