use Rattle.std.proofs.Common.{◌≡◌, ◌*◌, ◌+◌, ◌<◌, ◌^◌, ◌/◌, ℕ, ap, ◌∙◌, arith}
use Rattle.definitions.specs.Samples.{sign_of}
use Rattle.definitions.specs.Codes.{chip}
use Rattle.definitions.specs.Oscillators.{code_phase_after, early_sign, prompt_sign, late_sign}
use Rattle.oscillators.specs.Views.{Oscillation}
use Rattle.oscillators.specs.Signs.{sign_in}
use Rattle.oscillators.proofs.PlaneLemmas.{code_behind, code_behind_ahead, early_is, late_is}
use Rattle.oscillators.proofs.PlaneLemmas.{runs_agree, run_length}
use Rattle.oscillators.proofs.code.CodeOsc.planes.Goals as goal

pub loop-w-preserved : goal.loop-w-preserved
loop-w-preserved c =
    let phase : ℕ = c.args.self.now.phase in
    let step : ℕ = c.args.self.now.step in
    let i = c.loop-w.invariant in
    let w : ℕ = c.loop-w.w in
    let here : ℕ = c.loop-w.words.phase in
    let next : 64 * w + 64 ≡ 64 * (w + 1) = omega arith in
    let word = (c.next_chips-word.ensures.word c.args.prn c.table-table.ensures) in
    let moved = c.next_chips-word.ensures.moved in
    let behind : (j : ℕ) → code_phase_after here c.loop-w.words.step j
    ≡ code_phase_after phase step (64 * w + j) = λ j.
    ap (λ (s : ℕ). code_phase_after here s j) i.step
    ∙ code_behind phase step (64 * w) j here i.phase
    in
    let ahead : (j : ℕ) → code_phase_after (here + 2 ^ 31) c.loop-w.words.step j
    ≡ code_phase_after (phase + 2 ^ 31) step (64 * w + j) = λ j.
    ap (λ (s : ℕ). code_phase_after (here + 2 ^ 31) s j) i.step
    ∙ code_behind_ahead phase step (64 * w) j here i.phase
    in
    record {
      phase = ap (λ (o : Oscillation). o.phase) moved ∙ behind 64
          ∙ ap (code_phase_after phase step) next;
      step = ap (λ (o : Oscillation). o.step) moved ∙ i.step;
      early = rw next at (c.set_word.ensures (λ (n : ℕ). chip c.args.prn
          (code_phase_after (phase + 2 ^ 31) step n / 2 ^ 32)) i.early
          (λ j h. word.early j h ∙ ap (λ (p : ℕ). chip c.args.prn (p / 2 ^ 32)) (ahead j)));
      prompt = rw next at (c.set_word-in-loop-w.ensures
          (λ (n : ℕ). chip c.args.prn (code_phase_after phase step n / 2 ^ 32)) i.prompt
          (λ j h. word.prompt j h ∙ ap (λ (p : ℕ). chip c.args.prn (p / 2 ^ 32)) (behind j)));
      late = rw next at (c.set_word-in-loop-w-2.ensures
          (λ (n : ℕ). chip c.args.prn (code_phase_after (phase + 2 ^ 31) step n / 2 ^ 32 + 1022))
          i.late (λ j h. word.late j h ∙ ap (λ (p : ℕ). chip c.args.prn (p / 2 ^ 32 + 1022))
          (ahead j)));
    }

pub returns-clause-early_len : goal.returns-clause-early_len
returns-clause-early_len c = run_length (sign_in c.loop-w.early) c.args.n

pub returns-clause-early : goal.returns-clause-early
returns-clause-early c =
    let phase : ℕ = c.args.self.now.phase in
    let step : ℕ = c.args.self.now.step in
    let i = c.loop-w.invariant in
    runs_agree (sign_in c.loop-w.early) (λ (j : ℕ). early_sign c.args.prn
    (code_phase_after phase step j)) 0 c.args.n (λ k below.
    let start : 0 + k ≡ k = omega arith in
    let behind : k < 64 * c.loop-w.w = omega arith in
    let room : k < 1024 = omega (arith, c.requires) in
    rw start (ap sign_of (i.early.drawn k behind room) ∙ early_is c.args.prn phase step k))

pub returns-clause-prompt_len : goal.returns-clause-prompt_len
returns-clause-prompt_len c = run_length (sign_in c.loop-w.prompt) c.args.n

pub returns-clause-prompt : goal.returns-clause-prompt
returns-clause-prompt c =
    let phase : ℕ = c.args.self.now.phase in
    let step : ℕ = c.args.self.now.step in
    let i = c.loop-w.invariant in
    runs_agree (sign_in c.loop-w.prompt) (λ (j : ℕ). prompt_sign c.args.prn
    (code_phase_after phase step j)) 0 c.args.n (λ k below.
    let start : 0 + k ≡ k = omega arith in
    let behind : k < 64 * c.loop-w.w = omega arith in
    let room : k < 1024 = omega (arith, c.requires) in
    rw start (ap sign_of (i.prompt.drawn k behind room)))

pub returns-clause-late_len : goal.returns-clause-late_len
returns-clause-late_len c = run_length (sign_in c.loop-w.late) c.args.n

pub returns-clause-late : goal.returns-clause-late
returns-clause-late c =
    let phase : ℕ = c.args.self.now.phase in
    let step : ℕ = c.args.self.now.step in
    let i = c.loop-w.invariant in
    runs_agree (sign_in c.loop-w.late) (λ (j : ℕ). late_sign c.args.prn
    (code_phase_after phase step j)) 0 c.args.n (λ k below.
    let start : 0 + k ≡ k = omega arith in
    let behind : k < 64 * c.loop-w.w = omega arith in
    let room : k < 1024 = omega (arith, c.requires) in
    rw start (ap sign_of (i.late.drawn k behind room) ∙ late_is c.args.prn phase step k))
