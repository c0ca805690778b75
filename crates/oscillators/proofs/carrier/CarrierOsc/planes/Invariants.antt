use Rattle.std.proofs.Common.{◌≡◌, ◌*◌}
use Rattle.bit_planes.specs.Bits.{IsDrawn}
use Rattle.definitions.specs.Oscillators.{carrier_phase_after}
use Rattle.oscillators.specs.Eighths.{cos_sign_in, sin_sign_in, sin_size_in}
use Rattle.oscillators.specs.CarrierWords.{eighth_after}
use Rattle.oscillators.proofs.carrier.CarrierOsc.planes.Given as goal

abbrev pub invariant-loop-w : goal.invariant-loop-w
invariant-loop-w l = record {
  phase : l.words.phase ≡ carrier_phase_after l.self.phase l.self.step (64 * l.w);
  step : l.words.step ≡ l.self.step;
  cos_sign : IsDrawn (λ i. cos_sign_in (eighth_after l.self.phase l.self.step i))
      (64 * l.w) l.cos_sign;
  sin_sign : IsDrawn (λ i. sin_sign_in (eighth_after l.self.phase l.self.step i))
      (64 * l.w) l.sin_sign;
  sin_size : IsDrawn (λ i. sin_size_in (eighth_after l.self.phase l.self.step i))
      (64 * l.w) l.sin_size;
}
