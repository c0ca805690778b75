use Rattle.std.proofs.Common.{◌≡◌, ◌*◌, ◌+◌, ◌-◌, ◌/◌, ◌^◌, ◌<◌, ℕ, ap, ◌∙◌, arith, rules}
use Rattle.std.proofs.Math.Path.{ap₂}
use Rattle.definitions.specs.Oscillators.{carrier_phase_after, cosine, sine}
use Rattle.oscillators.specs.Views.{Oscillation}
use Rattle.oscillators.specs.Signs.{signed, cos_in, sin_in}
use Rattle.oscillators.specs.Eighths.{cos_sign_in, sin_sign_in, sin_size_in}
use Rattle.oscillators.specs.CarrierWords.{eighth_after}
use Rattle.oscillators.proofs.PlaneLemmas.{carrier_behind, cosine_by_bits, sine_by_bits, runs_agree}
use Rattle.oscillators.proofs.PlaneLemmas.{run_length}
use Rattle.oscillators.proofs.carrier.CarrierOsc.planes.Goals as goal

pub loop-w-preserved : goal.loop-w-preserved
loop-w-preserved c =
    let phase : ℕ = c.args.self.now.phase in
    let step : ℕ = c.args.self.now.step in
    let i = c.loop-w.invariant in
    let w : ℕ = c.loop-w.w in
    let here : ℕ = c.loop-w.words.phase in
    let next : 64 * w + 64 ≡ 64 * (w + 1) = omega arith in
    let word = c.next_bits-word.ensures.word in
    let moved = c.next_bits-word.ensures.moved in
    let behind : (j : ℕ) → carrier_phase_after here c.loop-w.words.step j
    ≡ carrier_phase_after phase step (64 * w + j) = λ j.
    ap (λ (s : ℕ). carrier_phase_after here s j) i.step
    ∙ carrier_behind phase step (64 * w) j here i.phase
    in
    record {
      phase = ap (λ (o : Oscillation). o.phase) moved ∙ behind 64
          ∙ ap (carrier_phase_after phase step) next;
      step = ap (λ (o : Oscillation). o.step) moved ∙ i.step;
      cos_sign = rw next at (c.set_word.ensures
          (λ (n : ℕ). cos_sign_in (eighth_after phase step n)) i.cos_sign
          (λ j h. word.cos_sign j h ∙ ap (λ (p : ℕ). cos_sign_in (p / 2 ^ 29)) (behind j)));
      sin_sign = rw next at (c.set_word-in-loop-w.ensures
          (λ (n : ℕ). sin_sign_in (eighth_after phase step n)) i.sin_sign
          (λ j h. word.sin_sign j h ∙ ap (λ (p : ℕ). sin_sign_in (p / 2 ^ 29)) (behind j)));
      sin_size = rw next at (c.set_word-in-loop-w-2.ensures
          (λ (n : ℕ). sin_size_in (eighth_after phase step n)) i.sin_size
          (λ j h. word.sin_size j h ∙ ap (λ (p : ℕ). sin_size_in (p / 2 ^ 29)) (behind j)));
    }

pub returns-clause-cos_len : goal.returns-clause-cos_len
returns-clause-cos_len c = run_length (cos_in c.loop-w.cos_sign c.loop-w.sin_size) c.args.n

pub returns-clause-sin_len : goal.returns-clause-sin_len
returns-clause-sin_len c = run_length (sin_in c.loop-w.sin_sign c.loop-w.sin_size) c.args.n

pub returns-clause-cos : goal.returns-clause-cos
returns-clause-cos c =
    let phase : ℕ = c.args.self.now.phase in
    let step : ℕ = c.args.self.now.step in
    let i = c.loop-w.invariant in
    runs_agree (cos_in c.loop-w.cos_sign c.loop-w.sin_size)
    (λ (j : ℕ). cosine (carrier_phase_after phase step j)) 0 c.args.n (λ k below.
    let start : 0 + k ≡ k = omega arith in
    let behind : k < 64 * c.loop-w.w = omega arith in
    let room : k < 1024 = omega (arith, c.requires) in
    rw start (ap₂ (λ (s z : ℕ). signed s (1 - z)) (i.cos_sign.drawn k behind room)
    (i.sin_size.drawn k behind room) ∙ cosine_by_bits (carrier_phase_after phase step k)
    (omega arith)))

pub returns-clause-sin : goal.returns-clause-sin
returns-clause-sin c =
    let phase : ℕ = c.args.self.now.phase in
    let step : ℕ = c.args.self.now.step in
    let i = c.loop-w.invariant in
    runs_agree (sin_in c.loop-w.sin_sign c.loop-w.sin_size)
    (λ (j : ℕ). sine (carrier_phase_after phase step j)) 0 c.args.n (λ k below.
    let start : 0 + k ≡ k = omega arith in
    let behind : k < 64 * c.loop-w.w = omega arith in
    let room : k < 1024 = omega (arith, c.requires) in
    rw start (ap₂ signed (i.sin_sign.drawn k behind room) (i.sin_size.drawn k behind room)
    ∙ sine_by_bits (carrier_phase_after phase step k) (omega arith)))

pub loop-w-init : goal.loop-w-init
loop-w-init c = search rules
