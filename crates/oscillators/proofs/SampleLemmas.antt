-- The chips of one sample after another.
use Rattle.std.proofs.Common.{◌≡◌, ℕ, ◌+◌, ◌-◌, ◌*◌, ◌/◌, ◌^◌, ◌<◌, List, get_or}
use Rattle.std.proofs.Common.{ap, ◌∙◌, arith}
use Rattle.definitions.specs.Codes.{chip}
use Rattle.ca_codes.specs.Filled.{IsTable}
use Rattle.ca_codes.proofs.BookLemmas.{before_next}
use Rattle.definitions.specs.Oscillators.{code_phase_after}

-- what a table has at the chip of a lane's sample, from a phase on, or some chips further
abbrev pub mask_at : List ℕ → ℕ → ℕ → ℕ → ℕ → ℕ
mask_at table further phase step k =
    get_or table (code_phase_after phase step (63 - k) / 2 ^ 32 + further) 0

module _ (prn : ℕ) (table : List ℕ) (is : IsTable prn table) (phase step j : ℕ) (h : j < 64) where
  pub chip_before : mask_at table 0 phase step (63 - j)
      ≡ 255 * chip prn (code_phase_after phase step j / 2 ^ 32 + 1022)
  unfolding IsTable
  chip_before =
      let place : 63 - (63 - j) ≡ j = omega arith in
      ap (λ (n : ℕ). get_or table (code_phase_after phase step n / 2 ^ 32 + 0) 0) place
      ∙ is (code_phase_after phase step j / 2 ^ 32 + 0) (omega arith)
      ∙ ap (λ (n : ℕ). 255 * chip prn (n + 1022)) (omega arith)

  pub chip_at : mask_at table 1 phase step (63 - j)
      ≡ 255 * chip prn (code_phase_after phase step j / 2 ^ 32)
  unfolding IsTable
  chip_at =
      let place : 63 - (63 - j) ≡ j = omega arith in
      ap (λ (n : ℕ). get_or table (code_phase_after phase step n / 2 ^ 32 + 1) 0) place
      ∙ is (code_phase_after phase step j / 2 ^ 32 + 1) (omega arith)
      ∙ ap (λ (n : ℕ). 255 * n) (before_next prn (code_phase_after phase step j / 2 ^ 32))
