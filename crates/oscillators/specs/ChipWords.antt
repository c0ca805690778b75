-- The chips of a satellite at 64 samples in a row, place j of a word being the sample j after the
-- first.
use Rattle.std.specs.Prelude.{◌≡◌, ℕ, ◌+◌, ◌-◌, ◌*◌, ◌/◌, ◌^◌, ◌<◌}
use Rattle.std.specs.Int.{bit_at}
use Rattle.definitions.specs.Codes.{chip}
use Rattle.definitions.specs.Oscillators.{code_phase_after}
use Rattle.bit_planes.specs.ByteLanes.{place_in}
use Rattle.oscillators.specs.declared.code_words.ChipWord.{ChipWord}
use Rattle.oscillators.specs.declared.code_words.ChipLanes.{ChipLanes}

-- the chips from a phase on; the phase half a chip ahead gives the early ones, and the late ones,
-- which come one chip before these
pub record AreChipBits (prn phase step : ℕ) (w : ChipWord) : Type 0 where
  pub early : (j : ℕ) → j < 64 → bit_at w.early (63 - j)
      ≡ chip prn (code_phase_after (phase + 2 ^ 31) step j / 2 ^ 32)
  pub prompt : (j : ℕ) → j < 64 → bit_at w.prompt (63 - j)
      ≡ chip prn (code_phase_after phase step j / 2 ^ 32)
  pub late : (j : ℕ) → j < 64 → bit_at w.late (63 - j)
      ≡ chip prn (code_phase_after (phase + 2 ^ 31) step j / 2 ^ 32 + 1022)

-- and masks of these chips
pub record AreChipMasks (prn phase step : ℕ) (lanes : ChipLanes) : Type 0 where
  pub early : (j : ℕ) → j < 64 → place_in lanes.early j
      ≡ 255 * chip prn (code_phase_after (phase + 2 ^ 31) step j / 2 ^ 32)
  pub prompt : (j : ℕ) → j < 64 → place_in lanes.prompt j
      ≡ 255 * chip prn (code_phase_after phase step j / 2 ^ 32)
  pub late : (j : ℕ) → j < 64 → place_in lanes.late j
      ≡ 255 * chip prn (code_phase_after (phase + 2 ^ 31) step j / 2 ^ 32 + 1022)
