-- A stretch of a recording that comes in pieces.
use Rattle.std.specs.Prelude.{◌≡◌, ℕ, ◌-◌, List, length, take, drop}
use Rattle.recordings.specs.declared.stretch.Stretch.{Stretch}

-- of the bytes that came so far, those after the first `skip` bytes were shown, at most `most` of
-- them
pub record Shows (skip most : ℕ) (bytes shown : List ℕ) (stretch : Stretch) : Type 0 where
  pub part : shown ≡ take most (drop skip bytes)
  pub before : stretch.skip ≡ skip - length bytes
  pub left : stretch.left ≡ most - length shown

-- how many bytes are still wanted at most
abbrev pub left_in : Stretch → ℕ
left_in stretch = stretch.left
