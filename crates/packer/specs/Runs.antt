-- A recording through the packer, from a reader to a writer whose bytes are known.
use Rattle.std.specs.Prelude.{◌≡◌, ℕ, ◌+◌, List, ◌++◌, Option, Some, Result, Ok, Err}
use Rattle.std.specs.Io.KnownBytes.{Appends}
use Rattle.recordings.specs.Readings.{AreNumbers}
use Rattle.recordings.specs.Recordings.{IsPacked}
use Rattle.recordings.specs.Packers.{StandsFor, recipe_in}
use Rattle.recordings.specs.Stretches.{Shows}
use Rattle.recordings.specs.declared.recipe.Recipe.{Recipe}
use Rattle.recordings.specs.declared.packer.Packer.{Packer}
use Rattle.recordings.specs.declared.stretch.Stretch.{Stretch}
use Rattle.packer.specs.declared.failure.Failure.{Failure}
use Rattle.packer.specs.declared.failure.Failure.TheVariants.{NotANumber}

-- the bytes of a writer grew by the packing of a stretch of a recording
pub record HasPacked (recipe : Recipe) (stretch : List ℕ) (old new : Option (List ℕ)) : Type 0 where
  pub written : List ℕ
  pub appended : Appends old new written
  pub packed : IsPacked recipe stretch written

-- the bytes of a writer grew by a front of that packing: what came of the stretch has a packing
-- that begins with what was written
pub record HasPackedFront (recipe : Recipe) (stretch : List ℕ) (old new : Option (List ℕ)) : Type 0
  where
    pub came : List ℕ
    pub ahead : List ℕ
    pub split : stretch ≡ came ++ ahead
    pub written : List ℕ
    pub rest : List ℕ
    pub appended : Appends old new written
    pub packed : IsPacked recipe came (written ++ rest)

-- a run failed after that, for a float that is no number only where the stretch has one
pub record HasBrokenOff (recipe : Recipe) (stretch : List ℕ) (old new : Option (List ℕ))
    (failure : Failure) : Type 0 where
  pub front : HasPackedFront recipe stretch old new
  pub number : failure ≡ NotANumber → ¬ AreNumbers recipe.kind stretch

-- by its answer
abbrev pub Packs : Recipe → List ℕ → Option (List ℕ) → Option (List ℕ) → Result (Unit {0}) Failure
    → Type 0
Packs recipe stretch old new (Ok done) = HasPacked recipe stretch old new
Packs recipe stretch old new (Err failure) = HasBrokenOff recipe stretch old new failure

-- how many bytes may come before a stretch is over
abbrev pub bytes_ahead : Stretch → ℕ
bytes_ahead stretch = stretch.skip + stretch.left

-- of all bytes of a reader some came and some are left; those that are wanted of the first went
-- through the stretch
pub record HasCome (skip most : ℕ) (all : List ℕ) (remaining : Option (List ℕ))
    (stretch : Stretch) : Type 0 where
  pub came : List ℕ
  pub left : List ℕ
  pub shown : List ℕ
  pub split : all ≡ came ++ left
  pub rest : remaining ≡ Some left
  pub shows : Shows skip most came shown stretch

-- in the course of a run these went through the packer to the writer
pub record IsCourse (recipe : Recipe) (skip most : ℕ) (all : List ℕ) (start : Option (List ℕ))
    (remaining contents : Option (List ℕ)) (stretch : Stretch) (packer : Packer) : Type 0 where
  pub come : HasCome skip most all remaining stretch
  pub written : List ℕ
  pub stands : StandsFor come.shown written packer
  pub recipe_is : recipe_in packer ≡ recipe
  pub appended : Appends start contents written
