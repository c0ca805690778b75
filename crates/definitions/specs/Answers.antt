-- What one slot answers to a request after the last sample. (This project's own.)
--
-- Time is the number of samples so far: at time T samples 0 to T - 1 are known, and `xs` is always
-- those. A command at time T acts before sample T; what the last sample causes comes before the
-- commands of that time.
use Rattle.std.specs.Prelude.{ℕ, Bool, if◌then◌else◌, List, length, Option, Some, None}
use Rattle.definitions.specs.Samples.{Sample}
use Rattle.definitions.specs.Oscillators.{Settings}
use Rattle.definitions.specs.Correlation.{Counts}
use Rattle.definitions.specs.Segments.{Shift, Channel, Dump, counts_of}
use Rattle.definitions.specs.Lock.{is_locked}
use Rattle.definitions.specs.Acquisition.{cells_done, cell_count}
use Rattle.definitions.specs.BitEdge.{has_edge}
use Rattle.definitions.specs.Commands.{Start, Request, TimedRequest, hold, track, acquire, begin}
use Rattle.definitions.specs.Commands.{counts, state, stop}
use Rattle.definitions.specs.Lives.{Life, channel_of, is_steered, dumps_of_life, life_now}
use Rattle.definitions.specs.Events.{pushes_of}

-- the state that is shown
pub data View : Type 0 where
  idle : View
  acquiring : (prn : ℕ) → (done : ℕ) → (cells : ℕ) → View
  holding : (prn : ℕ) → (dumps : ℕ) → View
  tracking : (prn : ℕ) → (dumps : ℕ) → Shift → (is_locked : Bool) → (has_edge : Bool) → View

abbrev pub tracking_view : ℕ → Shift → List Counts → View
tracking_view prn shift dumps =
    tracking prn (length dumps) shift (is_locked dumps) (has_edge (pushes_of dumps))

abbrev pub channel_view : Start → List Dump → Channel → View
channel_view start dumps channel = if is_steered start
    then tracking_view channel.prn (channel.steering (counts_of dumps)) (counts_of dumps)
    else holding channel.prn (length dumps)

abbrev pub waiting_view : Settings → ℕ → ℕ → Start → View
waiting_view settings n begun (hold prn doppler half_chip) = idle
waiting_view settings n begun (track prn doppler half_chip) = idle
waiting_view settings n begun (acquire plan) =
    acquiring plan.prn (cells_done settings plan begun n) (cell_count plan)

abbrev pub life_view : Settings → List Sample → Life → Option Channel → View
life_view settings xs life None = waiting_view settings (length xs) life.begun life.start
life_view settings xs life (Some channel) =
    channel_view life.start (dumps_of_life settings xs life) channel

unfoldable pub view_of : Settings → List Sample → Option Life → View
view_of settings xs None = idle
view_of settings xs (Some life) =
    life_view settings xs life (channel_of settings xs life.begun life.start)

pub data Answer : Type 0 where
  accepted : Answer
  refused : ℕ → Answer
  shown : View → Answer

-- refusal 9 for a start where a life is on, 10 for `counts` and `stop` where none is
abbrev pub answer_with : Settings → List Sample → Option Life → Request → Answer
answer_with settings xs None (begin start) = accepted
answer_with settings xs (Some life) (begin start) = refused 9
answer_with settings xs None (counts n) = refused 10
answer_with settings xs (Some life) (counts n) = accepted
answer_with settings xs on state = shown (view_of settings xs on)
answer_with settings xs None stop = refused 10
answer_with settings xs (Some life) stop = accepted

-- the answer to a command after the last sample, where all earlier commands came before it
unfoldable pub answer_at_end : Settings → List Sample → List TimedRequest → Request → Answer
answer_at_end settings xs commands request =
    answer_with settings xs (life_now settings xs commands) request
