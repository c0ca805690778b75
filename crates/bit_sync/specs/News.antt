-- What the last of the pushes reports.
use Rattle.std.specs.Prelude.{◌≡◌, ℤ, List, [], ◌∷◌, ◌++◌, length, Some, None}
use Rattle.definitions.specs.BitEdge.{edge_of, bits_of}
use Rattle.bit_sync.specs.declared.bit_sync.BitNews.{BitNews}
use Rattle.bit_sync.specs.declared.bit_sync.BitNews.TheVariants.{Nothing, Edge, Bit}

-- The pushes before, and those with one more. An edge is found once, with the push that is the
-- edge, and before all bits; a bit is reported with the push that makes it whole; and else nothing
-- of that has changed.
abbrev pub Emits : List ℤ → List ℤ → BitNews → Type 0
Emits before after Nothing = (edge_of after ≡ edge_of before) × (bits_of after ≡ bits_of before)
Emits before after Edge =
    (edge_of before ≡ None) × (edge_of after ≡ Some (length before))
    × (bits_of after ≡ bits_of before)
Emits before after (Bit bit) =
    (edge_of after ≡ edge_of before) × (bits_of after ≡ bits_of before ++ bit ∷ [])
