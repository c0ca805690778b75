-- The carrier at 64 samples in a row, place j of a word being the sample j after the first.
use Rattle.std.specs.Prelude.{◌≡◌, ℕ, ◌-◌, ◌/◌, ◌^◌, ◌<◌}
use Rattle.std.specs.Int.{bit_at}
use Rattle.definitions.specs.Oscillators.{carrier_phase_after}
use Rattle.oscillators.specs.declared.carrier_words.CarrierWord.{CarrierWord}
use Rattle.oscillators.specs.Eighths.{cos_sign_in, sin_sign_in, sin_size_in}

-- the bits of cosine and sine by the eighths that the samples lie in, from a phase on
abbrev pub eighth_after : ℕ → ℕ → ℕ → ℕ
eighth_after phase step j = carrier_phase_after phase step j / 2 ^ 29

pub record AreEighths (phase step : ℕ) (w : CarrierWord) : Type 0 where
  pub cos_sign : (j : ℕ) → j < 64 → bit_at w.cos_sign (63 - j)
      ≡ cos_sign_in (eighth_after phase step j)
  pub sin_sign : (j : ℕ) → j < 64 → bit_at w.sin_sign (63 - j)
      ≡ sin_sign_in (eighth_after phase step j)
  pub sin_size : (j : ℕ) → j < 64 → bit_at w.sin_size (63 - j)
      ≡ sin_size_in (eighth_after phase step j)
