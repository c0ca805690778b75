use Rattle.std.proofs.Common.{◌≡◌, ◌+◌, ◌-◌, ◌*◌, ◌/◌, ◌%◌, ◌^◌, ◌<◌, ◌≤◌, ℕ, get_or, ap, ◌∙◌}
use Rattle.std.proofs.Common.{arith}
use Rattle.std.proofs.Math.Path.{ap₂}
use Rattle.definitions.specs.Codes.{chip}
use Rattle.definitions.specs.Oscillators.{code_phase_after}
use Rattle.oscillators.specs.Views.{Oscillation}
use Rattle.oscillators.specs.Ways.{half_at}
use Rattle.oscillators.proofs.ChipLaneLemmas.{way_to_first, early_below, prompt_below}
use Rattle.oscillators.proofs.ChipLaneLemmas.{early_found, prompt_found, late_found}
use Rattle.oscillators.proofs.code_words.CodeWords.masks_by_windows.Goals as goal

pub look_up-requires-clause-below : goal.look_up-requires-clause-below
look_up-requires-clause-below c k h =
    let near : c.self.inside.step ≤ 3865470566 =
    rw (ap (λ (v : Oscillation). v.step) c.self.view_is) c.requires in
    early_below (c.in_cycle-ahead.result % 4294967296) c.self.inside.step k _ (omega arith) near h
    (c.chips-chips.ensures.early c.self.inside.step (omega (arith, near)) c.self.invariant.1 k h)

pub look_up-requires-2-clause-below : goal.look_up-requires-2-clause-below
look_up-requires-2-clause-below c k h =
    let near : c.self.inside.step ≤ 3865470566 =
    rw (ap (λ (v : Oscillation). v.step) c.self.view_is) c.requires in
    prompt_below (c.in_cycle-ahead.result % 4294967296) c.self.inside.step k _ (omega arith) near h
    (c.chips-chips.ensures.prompt c.self.inside.step (omega (arith, near)) c.self.invariant.1 k h)

pub look_up-requires-3-clause-below : goal.look_up-requires-3-clause-below
look_up-requires-3-clause-below c k h =
    let near : c.self.inside.step ≤ 3865470566 =
    rw (ap (λ (v : Oscillation). v.step) c.self.view_is) c.requires in
    early_below (c.in_cycle-ahead.result % 4294967296) c.self.inside.step k _ (omega arith) near h
    (c.chips-chips.ensures.early c.self.inside.step (omega (arith, near)) c.self.invariant.1 k h)

pub returns-clause-masks : goal.returns-clause-masks
returns-clause-masks c prn is_table =
    let phase : ℕ = c.args.self.now.phase in
    let step : ℕ = c.args.self.now.step in
    let phase_is : c.self.inside.phase ≡ phase = ap (λ (v : Oscillation). v.phase) c.self.view_is in
    let step_is : c.self.inside.step ≡ step = ap (λ (v : Oscillation). v.step) c.self.view_is in
    let short : step < 2 ^ 32 = omega (arith, c.requires) in
    let inside : c.self.inside.step < 2 ^ 32 = rw step_is short in
    let below : phase < 1023 * 2 ^ 32 = rw phase_is at c.self.invariant.0 in
    let ahead : ℕ = c.in_cycle-ahead.result in
    let ahead_is : ahead ≡ (phase + 2 ^ 31) % (1023 * 2 ^ 32) = rw phase_is at
    c.in_cycle-ahead.ensures in
    let early : (k : ℕ) → k < 64 → get_or c.chips-chips.result.early k 0
    ≡ half_at (ahead % 4294967296) step k / 2 =
    rw step_is at (c.chips-chips.ensures.early c.self.inside.step inside c.self.invariant.1) in
    let prompt : (k : ℕ) → k < 64 → get_or c.chips-chips.result.prompt k 0
    ≡ (half_at (ahead % 4294967296) step k + 1) / 2 =
    rw step_is at (c.chips-chips.ensures.prompt c.self.inside.step inside c.self.invariant.1) in
    let here : (k : ℕ) → k < 64 → get_or c.windows-windows.result (k / 16) 0
    ≡ ahead / 4294967296 + way_to_first step k / 4294967296 = λ k h.
    rw step_is at (c.windows-windows.ensures.begin c.self.inside.step c.self.invariant.1 (k / 16)
    (omega arith))
    ∙ ap (λ (n : ℕ). n + way_to_first step k / 4294967296) c.chip_number-chip.ensures
    in
    let next : (k : ℕ) → k < 64 → get_or c.windows.result (k / 16) 0
    ≡ ahead / 4294967296 + 1 + way_to_first step k / 4294967296 = λ k h.
    rw step_is at (c.windows.ensures.begin c.self.inside.step c.self.invariant.1 (k / 16)
    (omega arith))
    ∙ ap (λ (n : ℕ). n + 1 + way_to_first step k / 4294967296) c.chip_number-chip.ensures
    in
    record {
      early = λ j h.
          let k : ℕ = 63 - j in
          let there : k < 64 = omega arith in
          let place : 63 - k ≡ j = omega arith in
          c.look_up.ensures.masks prn is_table k there
          ∙ ap (λ (n : ℕ). 255 * chip prn (n + 1022))
          (ap₂ (λ (a b : ℕ). a + b) (next k there) (early k there))
          ∙ ap (λ (n : ℕ). 255 * n) (early_found prn phase ahead step k there short ahead_is
          ∙ ap (λ (n : ℕ). chip prn (code_phase_after (phase + 2 ^ 31) step n / 2 ^ 32)) place);
      prompt = λ j h.
          let k : ℕ = 63 - j in
          let there : k < 64 = omega arith in
          let place : 63 - k ≡ j = omega arith in
          c.look_up-2.ensures.masks prn is_table k there
          ∙ ap (λ (n : ℕ). 255 * chip prn (n + 1022))
          (ap₂ (λ (a b : ℕ). a + b) (here k there) (prompt k there))
          ∙ ap (λ (n : ℕ). 255 * n) (prompt_found prn phase ahead step k there short ahead_is below
          ∙ ap (λ (n : ℕ). chip prn (code_phase_after phase step n / 2 ^ 32)) place);
      late = λ j h.
          let k : ℕ = 63 - j in
          let there : k < 64 = omega arith in
          let place : 63 - k ≡ j = omega arith in
          c.look_up-3.ensures.masks prn is_table k there
          ∙ ap (λ (n : ℕ). 255 * chip prn (n + 1022))
          (ap₂ (λ (a b : ℕ). a + b) (here k there) (early k there))
          ∙ ap (λ (n : ℕ). 255 * n) (late_found prn phase ahead step k there short ahead_is
          ∙ ap (λ (n : ℕ). chip prn (code_phase_after (phase + 2 ^ 31) step n / 2 ^ 32 + 1022))
          place);
    }
