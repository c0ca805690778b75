-- What is asked of a recording, and the recipe that does it.
use Rattle.std.specs.Prelude.{◌≡◌, ℕ, ◌⊎◌, ℤ, Bool, true, false, if◌then◌else◌}
use Rattle.sample_planes.specs.Packings.{packing_of, has_quadrature, has_sizes}
use Rattle.recordings.specs.Readings.{bits_of}
use Rattle.recordings.specs.declared.part.PartRecipe.{PartRecipe}
use Rattle.recordings.specs.declared.recipe.Recipe.{Recipe}
use Rattle.recordings.specs.declared.choice.Choice.{Choice}

-- which value of a sample is the part in phase, and which the part in quadrature
abbrev pub in_phase_place : Choice → ℕ
in_phase_place choice = if choice.is_swapped then 1 else 0

abbrev pub quadrature_place : Choice → ℕ
quadrature_place choice = if choice.is_swapped then 0 else 1

-- a part is made of the value at a place of each sample, about a centre, its sign turned or not
pub record IsPart (place : ℕ) (centre : ℤ) (is_turned : Bool) (part : PartRecipe) : Type 0 where
  pub place_is : part.place ≡ place
  pub centre_is : part.centre ≡ centre
  pub turned_is : part.is_turned ≡ is_turned

abbrev pub IsInPhase : Choice → PartRecipe → Type 0
IsInPhase choice part = IsPart (in_phase_place choice) choice.centre false part

abbrev pub IsQuadrature : Choice → PartRecipe → Type 0
IsQuadrature choice part =
    IsPart (quadrature_place choice) choice.centre_q choice.is_conjugate part

-- a recipe makes the samples that are asked for: of pairs both parts, or for real samples the one
-- that is asked for; of real values the value
pub record Makes (choice : Choice) (recipe : Recipe) : Type 0 where
  pub kind : recipe.kind ≡ choice.kind
  pub is_paired : recipe.is_paired ≡ choice.is_paired
  pub format : recipe.format ≡ choice.format
  pub threshold : recipe.threshold ≡ choice.threshold
  pub in_phase : choice.takes_quadrature ≡ false → IsInPhase choice recipe.in_phase
  pub other : choice.takes_quadrature ≡ true → IsQuadrature choice recipe.in_phase
  pub quadrature : choice.is_paired ≡ true → IsQuadrature choice recipe.quadrature

-- what only pairs have is asked for
abbrev pub NeedsPairs : Choice → Type 0
NeedsPairs choice =
    (has_quadrature (packing_of choice.format) ≡ true)
    ⊎ ((choice.is_swapped ≡ true) ⊎ ((choice.is_conjugate ≡ true)
    ⊎ (choice.takes_quadrature ≡ true)))

-- of real values
abbrev pub LacksPairs : Choice → Type 0
LacksPairs choice = (choice.is_paired ≡ false) × NeedsPairs choice

-- sizes are asked of values that have a sign alone
abbrev pub LacksSizes : Choice → Type 0
LacksSizes choice =
    (has_sizes (packing_of choice.format) ≡ true) × (bits_of choice.kind ≡ 1)

-- one part is asked for, and both
abbrev pub AsksPart : Choice → Type 0
AsksPart choice =
    (has_quadrature (packing_of choice.format) ≡ true) × (choice.takes_quadrature ≡ true)

-- it can't be had for want of sizes, or since one part is asked for: the first of the three
-- reasons is reported
abbrev pub IsWithoutSizes : Choice → Type 0
IsWithoutSizes choice = ¬ LacksPairs choice × LacksSizes choice

abbrev pub IsOfOnePart : Choice → Type 0
IsOfOnePart choice = ¬ LacksPairs choice × ¬ LacksSizes choice × AsksPart choice

-- there is what is asked for
pub record CanBeMade (choice : Choice) : Type 0 where
  pub pairs : choice.is_paired ≡ false → ¬ NeedsPairs choice
  pub sizes : ¬ LacksSizes choice
