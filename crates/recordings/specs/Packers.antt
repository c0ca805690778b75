-- What a packer holds of a recording that comes in pieces.
use Rattle.std.specs.Prelude.{◌≡◌, ℕ, ◌*◌, List, length, drop}
use Rattle.recordings.specs.Recordings.{IsPacked, group_of}
use Rattle.recordings.specs.declared.recipe.Recipe.{Recipe}
use Rattle.recordings.specs.declared.packer.Packer.{Packer}

abbrev pub recipe_in : Packer → Recipe
recipe_in packer = packer.recipe

-- the bytes that don't fill a byte yet
abbrev pub held_in : Packer → List ℕ
held_in packer = packer.held.items

-- the bytes of a recording came so far, and others were written: their packing. Those after the
-- packed ones are held.
pub record StandsFor (bytes written : List ℕ) (packer : Packer) : Type 0 where
  pub packed : IsPacked (recipe_in packer) bytes written
  pub held : held_in packer ≡ drop (length written * group_of (recipe_in packer)) bytes
