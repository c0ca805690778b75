use Rattle.std.proofs.Common.{◌≡◌, ◌+◌, ◌*◌, ◌/◌, ◌^◌}
use Rattle.bit_planes.specs.Bits.{IsDrawn}
use Rattle.definitions.specs.Codes.{chip}
use Rattle.definitions.specs.Oscillators.{code_phase_after}
use Rattle.oscillators.proofs.code.CodeOsc.planes.Given as goal

abbrev pub invariant-loop-w : goal.invariant-loop-w
invariant-loop-w l = record {
  phase : l.words.phase ≡ code_phase_after l.self.phase l.self.step (64 * l.w);
  step : l.words.step ≡ l.self.step;
  early : IsDrawn (λ i. chip l.fn.prn (code_phase_after (l.self.phase + 2 ^ 31) l.self.step i / 2 ^
      32)) (64 * l.w) l.early;
  prompt : IsDrawn (λ i. chip l.fn.prn (code_phase_after l.self.phase l.self.step i / 2 ^ 32))
      (64 * l.w) l.prompt;
  late : IsDrawn (λ i. chip l.fn.prn (code_phase_after (l.self.phase + 2 ^ 31) l.self.step i / 2 ^
      32 + 1022)) (64 * l.w) l.late;
}
