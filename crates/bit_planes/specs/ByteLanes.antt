-- A word's 64 places as lanes of bytes: place j, counted from the top, is lane 63 - j.
use Rattle.std.specs.Prelude.{ℕ, ◌-◌, List, slice_index}

abbrev pub place_in : List ℕ → ℕ → ℕ
place_in lanes j = slice_index lanes (63 - j)
