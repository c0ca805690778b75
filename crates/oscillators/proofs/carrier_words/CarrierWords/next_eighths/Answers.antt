use Rattle.std.proofs.Common.{◌≡◌, ◌-◌, ℕ, refl, ap, ◌∙◌}
use Rattle.std.proofs.Common.{arith}
use Rattle.oscillators.specs.Views.{Oscillation}
use Rattle.oscillators.proofs.PlaneLemmas.{carrier_turned}
use Rattle.oscillators.proofs.carrier_words.CarrierWords.next_eighths.Goals as goal

pub returns-clause-eighths : goal.returns-clause-eighths
returns-clause-eighths c =
    let phase : ℕ = c.args.self.now.phase in
    let step : ℕ = c.args.self.now.step in
    let phase_is : c.self.inside.phase ≡ phase = ap (λ (v : Oscillation). v.phase) c.self.view_is in
    let step_is : c.self.inside.step ≡ step = ap (λ (v : Oscillation). v.step) c.self.view_is in
    record {
      long = c.eighths-eighths.ensures.long;
      eighths = λ j h.
          let place : 63 - (63 - j) ≡ j = omega arith in
          c.eighths-eighths.ensures.eighths c.self.inside.step c.self.invariant (63 - j)
          (omega arith)
          ∙ rw (place, phase_is, step_is) refl;
    }

pub returns-clause-moved : goal.returns-clause-moved
returns-clause-moved c =
    let i = c.self.inside in
    let at : ℕ → Oscillation = λ p. record { phase = p; step = i.step } in
    rw (← c.self.view_is) (ap at (carrier_turned i.phase i.step))
