-- What values are packed into, as they come in pieces.
use Rattle.std.specs.Prelude.{◌≡◌, ◌<◌, ◌≤◌, ◌++◌, ℕ, ℤ, List, length, map, flat_map}
use Rattle.std.specs.Int.{w8, w32, cast_unsigned, to_le_bytes}
use Rattle.std.specs.Prelude.{to_bits, is_nan, true, ◌⊎◌, [], ◌∷◌}
use lib.Ieee.{Float, binary32}
use Rattle.recordings.specs.Packers as packers
use Rattle.recordings.specs.declared.packer.TheConstants.{MOST_PIECE}
use Rattle.recordings.specs.Readings.{AreNumbers}
use Rattle.recordings.specs.declared.recipe.Recipe.{Recipe}
use Rattle.recordings.specs.declared.value_kind.ValueKind.{ValueKind}
use Rattle.recordings.specs.declared.fault.PackFault.{PackFault}
use Rattle.recordings.specs.declared.fault.PackFault.TheVariants as pack_faults
use Rattle.seldomplough.specs.declared.packing_fault.PackingFault.{PackingFault}
use Rattle.seldomplough.specs.declared.packing_fault.PackingFault.TheVariants as faults
use Rattle.seldomplough.specs.declared.packing.Packing.{Packing}

abbrev pub recipe_in : Packing → Recipe
recipe_in p = packers.recipe_in p.packer

abbrev pub kind_in : Packing → ValueKind
kind_in p = (recipe_in p).kind

-- the bytes of a recording that came so far, and what was packed of them
abbrev pub StandsFor : List ℕ → List ℕ → Packing → Type 0
StandsFor bytes written p = packers.StandsFor bytes written p.packer

-- what was packed of what came last
abbrev pub packed_in : Packing → List ℕ
packed_in p = p.packed.items

-- signed bytes and floats as the bytes of a recording, the low byte of a float first
abbrev pub bytes_of_i8 : List ℤ → List ℕ
bytes_of_i8 values = map (λ v. cast_unsigned w8 v) values

abbrev pub bytes_of_f32 : List Float → List ℕ
bytes_of_f32 values = flat_map (λ v. to_le_bytes w32 (to_bits binary32 v)) values

-- the first of some values were packed, as a recording has them by its bytes: all of them, or as
-- many as make `MOST_PIECE` bytes, and others are left
pub record TakesFront {A : Type 0} (bytes_of : List A → List ℕ) (values rest : List A)
    (old new : Packing) : Type 0 where
  pub taken : List A
  pub split : values ≡ taken ++ rest
  pub some : 0 < length values → 0 < length taken
  pub few : length (bytes_of taken) ≤ MOST_PIECE
  pub most : 0 < length rest → length (bytes_of taken) ≡ MOST_PIECE
  pub packs : (bytes before : List ℕ) → StandsFor bytes before old
      → StandsFor (bytes ++ bytes_of taken) (before ++ packed_in new) new

-- among the first of some values, with what is held, is a float that is no number
pub record FindsNoNumber {A : Type 0} (bytes_of : List A → List ℕ) (values : List A) (p : Packing)
    : Type 0 where
  pub taken : List A
  pub rest : List A
  pub split : values ≡ taken ++ rest
  pub none : ¬ AreNumbers (kind_in p) (packers.held_in p.packer ++ bytes_of taken)

-- one of some floats is no number
abbrev pub HasNan : List Float → Type 0
HasNan [] = ⊥
HasNan (v ∷ values) = (is_nan v ≡ true) ⊎ HasNan values

abbrev pub fault_of : PackFault → PackingFault
fault_of pack_faults.NoMemory = faults.NoMemory
fault_of pack_faults.NotANumber = faults.NotANumber
