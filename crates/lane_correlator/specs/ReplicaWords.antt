-- The lanes of a replica, and the phases of oscillators.
use Rattle.std.specs.Prelude.{◌≡◌, ◌⊎◌, ℕ, ◌+◌, ◌-◌, ◌*◌, ◌<◌, ◌≤◌, List}
use Rattle.definitions.specs.Samples.{Sample}
use Rattle.definitions.specs.Correlation.{Replica, Phases}
use Rattle.definitions.specs.Oscillators.{carrier_phase_after, code_phase_after, cosine, sine}
use Rattle.definitions.specs.Oscillators.{early_sign, prompt_sign, late_sign}
use Rattle.bit_planes.specs.ByteLanes.{place_in}
use Rattle.sample_planes.specs.Signs.{AreOneBit}
use Rattle.oscillators.specs.declared.code_words.ChipLanes.{ChipLanes}
use Rattle.oscillators.specs.Views.{Oscillation}
use Rattle.lane_correlator.specs.Bytes.{cosine_in, sine_in, mask_sign}

-- place j of the lanes has the replica at base + j
pub record AreOf (r : Replica) (base : ℕ) (eighths : List ℕ) (chips : ChipLanes) : Type 0 where
  pub cos : (j : ℕ) → j < 64 → r.cos (base + j) ≡ cosine_in (place_in eighths j)
  pub sin : (j : ℕ) → j < 64 → r.sin (base + j) ≡ sine_in (place_in eighths j)
  pub early : (j : ℕ) → j < 64 → r.early (base + j) ≡ mask_sign (place_in chips.early j)
  pub prompt : (j : ℕ) → j < 64 → r.prompt (base + j) ≡ mask_sign (place_in chips.prompt j)
  pub late : (j : ℕ) → j < 64 → r.late (base + j) ≡ mask_sign (place_in chips.late j)

-- the phases and steps of a carrier and a code
abbrev pub phases_of : Oscillation → Oscillation → Phases
phases_of carrier code = record {
  code = code.phase;
  carrier = carrier.phase;
  code_step = code.step;
  carrier_step = carrier.step;
}

-- the replica of a satellite from sample `start` of a run on, by the run's numbers
unfoldable pub placed : ℕ → Phases → ℕ → Replica
placed prn p start = record {
  cos = λ i. cosine (carrier_phase_after p.carrier p.carrier_step (i - start));
  sin = λ i. sine (carrier_phase_after p.carrier p.carrier_step (i - start));
  early = λ i. early_sign prn (code_phase_after p.code p.code_step (i - start));
  prompt = λ i. prompt_sign prn (code_phase_after p.code p.code_step (i - start));
  late = λ i. late_sign prn (code_phase_after p.code p.code_step (i - start));
}

-- oscillators stand at the first sample of word w, if they had these phases at that of word first
pub record StandAt (p : Phases) (first w : ℕ) (carrier code : Oscillation) : Type 0 where
  pub carrier_is : (j : ℕ) → carrier_phase_after carrier.phase p.carrier_step j
      ≡ carrier_phase_after p.carrier p.carrier_step (64 * (w - first) + j)
  pub carrier_step_is : carrier.step ≡ p.carrier_step
  pub code_is : (j : ℕ) → code_phase_after code.phase p.code_step j
      ≡ code_phase_after p.code p.code_step (64 * (w - first) + j)
  pub code_step_is : code.step ≡ p.code_step

-- lanes of bytes have room for so many words: their products with a carrier are at most 3 in size
-- where each part is 1 in size, and else 9
abbrev pub HaveRoom : List Sample → ℕ → Type 0
HaveRoom xs words = ((words ≤ 21) × AreOneBit xs) ⊎ (words ≤ 7)

-- the greatest size of products of samples with a carrier: 3 where each part of these is 1 in size
abbrev pub IsMostProduct : List Sample → ℕ → Type 0
IsMostProduct xs most = ((most ≡ 3) × AreOneBit xs) ⊎ (most ≡ 9)
