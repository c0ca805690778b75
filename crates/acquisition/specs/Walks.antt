-- Walks along the half chips of a code.
use Rattle.std.specs.Prelude.{◌≡◌, ◌<◌, ◌/◌, ◌^◌, ℕ}
use Rattle.definitions.specs.Oscillators.{code_phase_after}
use Rattle.acquisition.specs.declared.half_chip_walk.HalfChipWalk.{HalfChipWalk}

-- the next sample of a walk is at a phase of the code, which a step takes on from sample to sample:
-- those that are left lie at its place, and the one after them is at its next phase
pub record IsAt (phase step : ℕ) (walk : HalfChipWalk) : Type 0 where
  pub by_step : walk.step ≡ step
  pub here : (j : ℕ) → j < walk.left → code_phase_after phase step j / 2 ^ 31 ≡ walk.place
  pub next : walk.next ≡ code_phase_after phase step walk.left
