-- Where a step of samples stays before the end of the code's cycle, and where it reaches the end.
use Rattle.std.proofs.Common.{zero, suc, ◌≡◌, ◌≤◌, ◌<◌, ◌+◌, ◌-◌, ◌*◌, ◌%◌, ℕ, arith, sym}
use Rattle.std.proofs.Common.{ap, ◌∙◌}
use Rattle.std.proofs.Math.Nat.{mod-eq_of_lt, mul-le-mul_right}
use native.Mathlib.Numerals.{unary_clauses}
use Rattle.definitions.specs.Oscillators.{code_cycle, code_phase_after}
use Rattle.oscillators.specs.Views.{Oscillation}

-- it passes the end by less than a step, and the phase begins again
past_by : (phase step m : ℕ) → phase + m * step < code_cycle → step ≤ 3000000000
    → code_cycle ≤ phase + (step + m * step)
    → (phase + (step + m * step)) % code_cycle ≡ phase + (step + m * step) - code_cycle
past_by phase step m before slow through = omega (arith, before, slow, through)

pub past_wrap : (phase step n : ℕ) → 0 < n → phase + (n - 1) * step < code_cycle → step ≤ 3000000000
    → code_cycle ≤ phase + n * step
    → code_phase_after phase step n ≡ phase + n * step - code_cycle
past_wrap phase step zero some before slow through = absurd (omega (arith, some))
past_wrap phase step (suc m) some before slow through =
    let more : suc m * step ≡ step + m * step = omega arith in
    ap (λ k. (phase + k) % code_cycle) more
    ∙ past_by phase step m (simp unary_clauses at before) slow (rw (← more) through)
    ∙ ap (λ k. phase + k - code_cycle) (sym more)

-- an oscillator that takes fewer samples than reach the end
pub quiet : (code new : Oscillation) (len n w : ℕ) → len ≡ n
    → new ≡ record { phase = code_phase_after code.phase code.step len; step = code.step } → n < w
    → ((k : ℕ) → k < w → code.phase + k * code.step < code_cycle)
    → (code.phase + n * code.step < code_cycle) × (new.phase ≡ code.phase + n * code.step)
quiet code new len n w is e less least =
    let low : code.phase + n * code.step < code_cycle = least n less in (
      low,
      ap (λ (o : Oscillation). o.phase) e ∙ ap (λ k. code_phase_after code.phase code.step k) is
          ∙ mod-eq_of_lt low,
    )

-- one that reaches it with the last of them
pub wraps : (code new : Oscillation) (len n w : ℕ) → len ≡ n
    → new ≡ record { phase = code_phase_after code.phase code.step len; step = code.step } → 0 < n
    → code.phase + (n - 1) * code.step < code_cycle → code.step ≤ 3000000000
    → code_cycle ≤ code.phase + w * code.step → w ≡ len
    → (code_cycle ≤ code.phase + n * code.step)
    × (new.phase ≡ code.phase + n * code.step - code_cycle)
wraps code new len n w is e some before slow through ends =
    let high : code_cycle ≤ code.phase + n * code.step = rw (← is, ← ends) through in (
      high,
      ap (λ (o : Oscillation). o.phase) e
          ∙ ap (λ k. code_phase_after code.phase code.step k) is
          ∙ past_wrap code.phase code.step n some before slow high,
    )

-- past the end by less than a step
pub past_less : (phase step n new : ℕ) → 0 < n → phase + (n - 1) * step < code_cycle
    → code_cycle ≤ phase + n * step → new ≡ phase + n * step - code_cycle → new < step
past_less phase step zero new some before high is = absurd (omega (arith, some))
past_less phase step (suc m) new some before high is =
    let more : suc m * step ≡ step + m * step = omega arith in
    let low : phase + m * step < code_cycle = simp unary_clauses at before in
    omega (arith, more, low, high, is)

-- the end takes a sample at least
pub at-least-one : (phase step w : ℕ) → phase < code_cycle → code_cycle ≤ phase + w * step → 0 < w
at-least-one phase step zero low ends = absurd (omega (arith, low, ends))
at-least-one phase step (suc w) low ends = omega arith

-- before the last of the samples that it takes, the phase is below the cycle
pub before-end : (phase step w : ℕ) → phase + (w - 1) * step < code_cycle → (k : ℕ) → k < w
    → phase + k * step < code_cycle
before-end phase step w before k less =
    let fewer : k ≤ w - 1 = omega (arith, less) in
    omega (arith, before, mul-le-mul_right step fewer)

-- after some samples it takes so many fewer
pub nearer : (phase step n m : ℕ) → phase + n * step + m * step ≡ phase + (n + m) * step
nearer phase step n m = omega arith

pub left-before : (phase step n w : ℕ) → n < w → phase + (w - 1) * step < code_cycle
    → phase + n * step + (w - n - 1) * step < code_cycle
left-before phase step n w less before =
    let whole : n + (w - n - 1) ≡ w - 1 = omega (arith, less) in
    rw (nearer phase step n (w - n - 1), whole) before

pub left-ends : (phase step n w : ℕ) → n < w → code_cycle ≤ phase + w * step
    → code_cycle ≤ phase + n * step + (w - n) * step
left-ends phase step n w less ends =
    let whole : n + (w - n) ≡ w = omega (arith, less) in
    rw (nearer phase step n (w - n), whole) ends

-- and not many
pub end-near : (phase step w : ℕ) → 0 < step
    → ((k : ℕ) → k < w → phase + k * step < code_cycle) → w ≤ code_cycle
end-near phase step zero some least = omega arith
end-near phase step (suc w) some least =
    let each : 1 ≤ step = omega (arith, some) in
    let low : phase + w * step < code_cycle = least w (omega arith) in
    omega (arith, low, mul-le-mul_right w each)

-- where it takes so many samples from here on: a segment that begins
module _ (phase step at w : ℕ) (some : 0 < w)
    (least : (k : ℕ) → k < w → phase + k * step < code_cycle) where
  pub begins-low : phase < code_cycle
  begins-low = omega (arith, least 0 some)

  pub begins-before : phase + (at + w - at - 1) * step < code_cycle
  begins-before =
      let last : at + w - at - 1 ≡ w - 1 = omega arith in
      rw last (least (w - 1) (omega (arith, some)))

pub begins-through : (phase step at w : ℕ) → code_cycle ≤ phase + w * step
    → code_cycle ≤ phase + (at + w - at) * step
begins-through phase step at w through =
    let all : at + w - at ≡ w = omega arith in
    rw all through
