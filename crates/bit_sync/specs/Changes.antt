-- Changes of sign, as the last of the pushes leaves them.
use Rattle.std.specs.Prelude.{ℕ, ◌-◌, ◌==◌, Bool, false, if◌then◌else◌, ℤ, List, length, Option}
use Rattle.std.specs.Prelude.{Some, None}
use Rattle.std.specs.Bool.{xor}
use Rattle.std.specs.Int.{is_negative}
use Rattle.definitions.specs.BitEdge.{push_at, changes_at, reset_up_to}

-- whether the last push is below zero, if there is one
unfoldable pub sign_of_last : List ℤ → Option Bool
sign_of_last pushes =
    if length pushes == 0 then None else Some (is_negative (push_at pushes (length pushes - 1)))

-- a push of this sign after one of that sign is a change
abbrev pub sign_turns : Option Bool → Bool → Bool
sign_turns None is_negative = false
sign_turns (Some last) is_negative = xor last is_negative

-- the changes at a place since the last reset
unfoldable pub changes_since_reset : List ℤ → ℕ → ℕ
changes_since_reset pushes place =
    changes_at pushes place (reset_up_to pushes (length pushes - 1)) (length pushes - 1)
