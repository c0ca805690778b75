-- The carrier and the code at 64 samples in a row, lane 63 - j being the sample j after the first.
use Rattle.std.specs.Prelude.{◌≡◌, ◌⊎◌, ℕ, ℤ, ◌/◌, ◌<◌, List, length}
use Rattle.definitions.specs.Samples.{sign_of}
use Rattle.definitions.specs.Oscillators.{code_phase_after, early_sign, prompt_sign, late_sign}
use Rattle.bit_planes.specs.ByteLanes.{place_in}
use Rattle.oscillators.specs.CarrierWords.{eighth_after}
use Rattle.oscillators.specs.declared.code_words.ChipLanes.{ChipLanes}

-- the numbers of the eighths of a cycle from a phase on
pub record AreEighthLanes (phase step : ℕ) (lanes : List ℕ) : Type 0 where
  pub long : length lanes ≡ 64
  pub eighths : (j : ℕ) → j < 64 → place_in lanes j ≡ eighth_after phase step j

-- a mask for a sign: 0 for +1, and 255 for -1
pub record IsMask (sign : ℤ) (mask : ℕ) : Type 0 where
  pub either : (mask ≡ 0) ⊎ (mask ≡ 255)
  pub value : sign ≡ sign_of (mask / 255)

-- the masks of the chips of a satellite from a phase on
pub record AreChipLanes (prn phase step : ℕ) (lanes : ChipLanes) : Type 0 where
  pub early : (j : ℕ) → j < 64
      → IsMask (early_sign prn (code_phase_after phase step j)) (place_in lanes.early j)
  pub prompt : (j : ℕ) → j < 64
      → IsMask (prompt_sign prn (code_phase_after phase step j)) (place_in lanes.prompt j)
  pub late : (j : ℕ) → j < 64
      → IsMask (late_sign prn (code_phase_after phase step j)) (place_in lanes.late j)

pub record HasAllLanes (lanes : ChipLanes) : Type 0 where
  pub early : length lanes.early ≡ 64
  pub prompt : length lanes.prompt ≡ 64
  pub late : length lanes.late ≡ 64
