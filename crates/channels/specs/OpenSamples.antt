-- Which samples of a history are open.
use Rattle.std.specs.Prelude.{◌≤◌, ◌-◌, ℕ}
use Rattle.sample_history.specs.declared.history.SampleHistory.{SampleHistory}
use Rattle.sample_history.specs.Histories as histories
use Rattle.sample_planes.specs.declared.planes.TheConstants.{MAX_SAMPLES}

-- of a history that has so much room, the samples from one on are open: so few that it holds them
pub record IsOpen (history : SampleHistory) (first unpacked : ℕ) : Type 0 where
  pub room : MAX_SAMPLES ≤ histories.room_of history
  pub held : histories.first_of history ≤ first
  pub begun : first ≤ unpacked
  pub taken : unpacked ≤ histories.taken_of history
  pub few : histories.taken_of history - first ≤ MAX_SAMPLES
