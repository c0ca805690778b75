use Rattle.std.proofs.Common.{◌-◌, ◌≡◌, ◌≤◌, ◌+◌, ℕ}
use Rattle.definitions.specs.Samples.{Sample}
use Rattle.acquisition.specs.FoldStates.{IsFold, HasRoom, AreAt, AreHeld}
use Rattle.acquisition.proofs.fold.Fold.fill.Given as goal

abbrev pub invariant-loop-done : goal.invariant-loop-done
invariant-loop-done g l = record {
  done : l.done ≤ l.len;
  room : HasRoom (l.len - l.done) l.self;
  code_step : l.code.step ≡ l.steps.code;
  carrier_step : l.carrier.step ≡ l.steps.carrier;
  at : AreAt (l.before + l.done) l.code.phase l.steps.code l.carrier;
  fold : (x : ℕ → Sample) → AreHeld (g.S.SampleSource.held l.source) l.first x l.before l.len
      → IsFold x l.steps.code l.steps.carrier l.before l.done l.self;
}

abbrev pub decreases-loop-done : goal.decreases-loop-done
decreases-loop-done g l = l.len - l.done
