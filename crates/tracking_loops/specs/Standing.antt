-- What is kept stands for the dumps so far.
use Rattle.std.specs.Prelude.{◌≡◌, ℕ, ◌-◌, ◌%◌, min, unsigned_abs, ℤ, List, length, sum_by}
use Rattle.definitions.specs.Correlation.{Counts}
use Rattle.definitions.specs.Loops.{Loops as DefinedLoops, loops_after}
use Rattle.definitions.specs.Lock.{is_locked, window_count}
use Rattle.lane_correlator.specs.Counting.{counts_in}
use Rattle.tracking_loops.specs.Windows.{unfinished_window, bad_run}
use Rattle.tracking_loops.specs.declared.steering.Steering.{Steering}
use Rattle.tracking_loops.specs.declared.window.LockWindow.{LockWindow}
use Rattle.tracking_loops.specs.declared.lock.Lock.{Lock}
use Rattle.tracking_loops.specs.declared.loops.Loops.{Loops}

-- what is kept for the shift, as the definitions have it
abbrev pub steering_in : Steering → DefinedLoops
steering_in s = record { taken = s.dumps; last = counts_in s.last; u = s.u; v = s.v; w = s.w }

-- what is kept of the dumps after the last whole window
pub record IsFilling (dumps : List Counts) (window : LockWindow) : Type 0 where
  pub count : window.count ≡ (length dumps - 199) % 20
  pub in_phase : window.in_phase ≡ sum_by (λ (d : Counts). unsigned_abs d.ip)
      (unfinished_window dumps)
  pub quadrature : window.quadrature ≡ sum_by (λ (d : Counts). unsigned_abs d.qp)
      (unfinished_window dumps)

-- the run of bad windows is followed as far as the signal's loss
pub record IsWatching (dumps : List Counts) (lock : Lock) : Type 0 where
  pub window : IsFilling dumps lock.window
  pub bad_windows : lock.bad_windows ≡ min 50 (bad_run dumps (window_count dumps))
  pub locked : lock.is_locked ≡ is_locked dumps

pub record IsTracking (start : ℤ) (dumps : List Counts) (loops : Loops) : Type 0 where
  pub taken : loops.steering.dumps ≡ length dumps
  pub steering : steering_in loops.steering ≡ loops_after start dumps
  pub lock : IsWatching dumps loops.lock

-- begun with this shift, and with these dumps taken since
unfoldable pub StandsFor : ℤ → List Counts → Loops → Type 0
StandsFor start dumps loops = IsTracking start dumps loops

-- how many dumps were taken
unfoldable pub dump_count : Loops → ℕ
dump_count loops = loops.steering.dumps
