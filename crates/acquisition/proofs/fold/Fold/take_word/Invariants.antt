use Rattle.std.proofs.Common.{◌≤◌, ◌+◌, ◌-◌, ℕ}
use Rattle.definitions.specs.Samples.{Sample}
use Rattle.definitions.specs.Oscillators.{code_phase_after}
use Rattle.acquisition.specs.FoldStates.{IsFold, AreWiped, HasRoom}
use Rattle.acquisition.specs.Walks.{IsAt}
use Rattle.acquisition.proofs.fold.Fold.take_word.Given as goal

abbrev pub invariant-loop-done : goal.invariant-loop-done
invariant-loop-done l = record {
  done : l.done ≤ l.count;
  room : (n : ℕ) → HasRoom (l.done + n) l.fn.self → HasRoom n l.self;
  walk : (phase step : ℕ) → IsAt phase step l.fn.walk
      → IsAt (code_phase_after phase step l.done) step l.walk;
  fold : (x : ℕ → Sample) (step carrier_step from n : ℕ)
      → IsFold x step carrier_step from n l.fn.self
      → IsAt (code_phase_after 0 step (from + n)) step l.fn.walk
      → AreWiped x carrier_step (from + n) l.count l.products
      → IsFold x step carrier_step from (n + l.done) l.self;
}

abbrev pub decreases-loop-done : goal.decreases-loop-done
decreases-loop-done l = l.count - l.done
