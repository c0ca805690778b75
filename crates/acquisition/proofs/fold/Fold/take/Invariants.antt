use Rattle.std.proofs.Common.{◌≡◌, ◌<◌, ◌+◌, ◌*◌, ℕ, length}
use Rattle.std.specs.Prelude.{min}
use Rattle.definitions.specs.Samples.{Sample, sample_at}
use Rattle.definitions.specs.Oscillators.{code_phase_after, carrier_phase_after}
use Rattle.acquisition.specs.FoldStates.{IsFold, AreAt, HasRoom}
use Rattle.acquisition.specs.Walks.{IsAt}
use Rattle.acquisition.proofs.fold.Fold.take.Given as goal

abbrev pub invariant-loop-w : goal.invariant-loop-w
invariant-loop-w l = record {
  walk : IsAt (code_phase_after l.code l.step (min (64 * l.w) (length l.samples))) l.step l.walk;
  words_step : l.words.step ≡ l.carrier.step;
  words_phase : l.words.phase ≡ carrier_phase_after l.carrier.phase l.carrier.step (64 * l.w);
  room : (n : ℕ) → HasRoom (min (64 * l.w) (length l.samples) + n) l.fn.self → HasRoom n l.self;
  fold : (x : ℕ → Sample) (from n : ℕ)
      → IsFold x l.step l.carrier.step from n l.fn.self
      → AreAt (from + n) l.code l.step l.carrier
      → ((j : ℕ) → j < length l.samples → sample_at l.samples j ≡ x (from + n + j))
      → IsFold x l.step l.carrier.step from (n + min (64 * l.w) (length l.samples)) l.self;
}
