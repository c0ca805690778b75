-- The names of the packings.
use Rattle.std.specs.Prelude.{ℕ, List, [], ◌∷◌, map, Option, Some, None, if◌then◌else◌, codes}
use Rattle.std.specs.Str.{bytes_eq}
use Rattle.sample_planes.specs.declared.format.Format.{Format}
use Rattle.sample_planes.specs.declared.format.Format.TheVariants.{Real1, Real2, Iq1, Iq2}

-- what a packing is called
abbrev pub name_of : Format → List ℕ
name_of Real1 = codes "real1"
name_of Real2 = codes "real2"
name_of Iq1 = codes "iq1"
name_of Iq2 = codes "iq2"

-- the names of all
abbrev pub format_names : List (List ℕ)
format_names = map name_of (Real1 ∷ Real2 ∷ Iq1 ∷ Iq2 ∷ [])

-- a packing by its name
abbrev pub named_format : List ℕ → Option Format
named_format name =
    if bytes_eq name (name_of Real1) then Some Real1
    else if bytes_eq name (name_of Real2) then Some Real2
    else if bytes_eq name (name_of Iq1) then Some Iq1
    else if bytes_eq name (name_of Iq2) then Some Iq2 else None
