-- The lives of one slot alone, over all samples so far and the requests made to it: when each
-- begins and ends, and what channel it follows. No block, piece or request to another slot occurs
-- here. (This project's own.)
--
-- Time is the number of samples so far: at time T samples 0 to T - 1 are known, and `xs` is always
-- those. A command at time T acts before sample T; what the last sample causes comes before the
-- commands of that time.
use Rattle.std.specs.Prelude.{ℕ, ◌+◌, ◌-◌, ◌*◌, ◌^◌, ◌&&◌, ◌||◌, not, Bool, true, false, nat_le}
use Rattle.std.specs.Prelude.{if◌then◌else◌, ℤ, pos, ◌*ℤ◌, List, [], fold, length, take, Option}
use Rattle.std.specs.Prelude.{Some, None}
use Rattle.std.specs.Option.{is_some}
use Rattle.definitions.specs.Sums.{least_below}
use Rattle.definitions.specs.Samples.{Sample}
use Rattle.definitions.specs.Oscillators.{Settings, code_step, code_phase_after}
use Rattle.definitions.specs.Correlation.{Counts}
use Rattle.definitions.specs.Segments.{Channel, Dump, counts_of, dumps_of}
use Rattle.definitions.specs.Loops.{shift_after}
use Rattle.definitions.specs.Lock.{nothing, lock, unlock, lost, news_of}
use Rattle.definitions.specs.Acquisition.{Plan, Cell, bin_shift, result_of, due_time}
use Rattle.definitions.specs.Commands.{Start, Request, TimedRequest, hold, track, acquire, begin}
use Rattle.definitions.specs.Commands.{counts, state, stop}

-- a life of a slot begins with a `hold`, `track` or `acquire` that is accepted. It has the time of
-- that command, what the command asks for, and what the last `counts` since asks for: so many of
-- the dumps that end after its time
pub record Life : Type 0 where
  pub begun : ℕ
  pub start : Start
  pub wanted : ℕ
  pub wanted_from : ℕ

-- ---- what a life follows

abbrev pub doppler_shift : ℤ → ℤ
doppler_shift doppler = doppler *ℤ pos 65536

-- a cell that was found is tracked from the due time on, at its bin's shift, and at the phase to
-- which its code has come since the start
abbrev pub found_channel : Settings → Plan → ℕ → Cell → Channel
found_channel settings plan begun cell =
    let due = due_time settings plan begun in
    let shift = bin_shift plan cell.bin in
    record {
      prn = plan.prn;
      start = due;
      code = code_phase_after (cell.half_chip * 2 ^ 31) (code_step settings shift.v shift.w)
          (due - begun);
      steering = shift_after shift.v;
    }

abbrev pub acquired_channel : Settings → List Sample → Plan → ℕ → Option Channel
acquired_channel settings xs plan begun =
    let cell = result_of settings plan xs begun in
    if nat_le (due_time settings plan begun) (length xs) && cell.found
    then Some (found_channel settings plan begun cell) else None

-- the channel that a holding slot follows from a time on
abbrev pub held_channel : ℕ → ℕ → ℤ → ℕ → Channel
held_channel begun prn doppler half_chip =
    record {
      prn = prn;
      start = begun;
      code = half_chip * 2 ^ 31;
      steering = λ _. record { v = doppler_shift doppler; w = pos 0 };
    }

-- the channel that a tracking slot follows from a time on
abbrev pub tracked_channel : ℕ → ℕ → ℤ → ℕ → Channel
tracked_channel begun prn doppler half_chip =
    record {
      prn = prn;
      start = begun;
      code = half_chip * 2 ^ 31;
      steering = shift_after (doppler_shift doppler);
    }

-- the channel that a start gives: at once, or where an acquisition has found the signal
abbrev pub channel_of : Settings → List Sample → ℕ → Start → Option Channel
channel_of settings xs begun (hold prn doppler half_chip) =
    Some (held_channel begun prn doppler half_chip)
channel_of settings xs begun (track prn doppler half_chip) =
    Some (tracked_channel begun prn doppler half_chip)
channel_of settings xs begun (acquire plan) = acquired_channel settings xs plan begun

abbrev pub is_steered : Start → Bool
is_steered (hold prn doppler half_chip) = false
is_steered (track prn doppler half_chip) = true
is_steered (acquire plan) = true

abbrev pub is_lost_with : List Counts → ℕ → Bool
is_lost_with dumps k =
    elim (news_of (take k dumps)) [ lost ↦ true | nothing ↦ false | lock ↦ false | unlock ↦ false ]

-- how many dumps there are when the loops answer that the signal is lost
abbrev pub lost_after : List Counts → Option ℕ
lost_after dumps = least_below (is_lost_with dumps) (length dumps + 1)

-- the dumps up to the one with which they answer so
abbrev pub until_lost : List Dump → List Dump
until_lost dumps = elim (lost_after (counts_of dumps)) [ Some k ↦ take k dumps | None ↦ dumps ]

abbrev pub dumps_of_channel : Settings → List Sample → Start → Option Channel → List Dump
dumps_of_channel settings xs start None = []
dumps_of_channel settings xs start (Some channel) = let dumps = dumps_of settings channel xs in
    if is_steered start then until_lost dumps else dumps

unfoldable pub dumps_of_life : Settings → List Sample → Life → List Dump
dumps_of_life settings xs life =
    dumps_of_channel settings xs life.start (channel_of settings xs life.begun life.start)

-- ---- when a life ends, and which one is on

-- the loops have answered that the signal is lost
abbrev pub is_lost : Settings → List Sample → Life → Bool
is_lost settings xs life =
    is_steered life.start && is_some (lost_after (counts_of (dumps_of_life settings xs life)))

-- the due time of an acquisition has come, and it has found nothing
abbrev pub found_nothing : Settings → List Sample → ℕ → Start → Bool
found_nothing settings xs begun (hold prn doppler half_chip) = false
found_nothing settings xs begun (track prn doppler half_chip) = false
found_nothing settings xs begun (acquire plan) =
    nat_le (due_time settings plan begun) (length xs)
    && not (result_of settings plan xs begun).found

-- the samples have ended the life
unfoldable pub is_over : Settings → List Sample → Life → Bool
is_over settings xs life =
    found_nothing settings xs life.begun life.start || is_lost settings xs life

-- the life that has not been ended by the samples so far. An end that comes with the last sample
-- comes before the commands after it
abbrev pub still_on : Settings → List Sample → Option Life → Option Life
still_on settings xs None = None
still_on settings xs (Some life) = if is_over settings xs life then None else Some life

abbrev pub life_wanting : Life → ℕ → ℕ → Life
life_wanting life time n =
    record { begun = life.begun; start = life.start; wanted = n; wanted_from = time }

-- what a command at a time makes of the latest life, where the second life is the one that is on at
-- that time. A start is accepted where none is on, `counts` and `stop` where one is; `state` and
-- each command that is refused change nothing
abbrev pub life_with : Option Life → Option Life → ℕ → Request → Option Life
life_with latest None time (begin start) =
    Some (record { begun = time; start = start; wanted = 0; wanted_from = time })
life_with latest (Some on) time (begin start) = latest
life_with latest None time (counts n) = latest
life_with latest (Some on) time (counts n) = Some (life_wanting on time n)
life_with latest on time state = latest
life_with latest None time stop = latest
life_with latest (Some on) time stop = None

abbrev pub life_after : Settings → List Sample → Option Life → TimedRequest → Option Life
life_after settings xs latest command =
    life_with latest (still_on settings (take command.time xs) latest) command.time command.request

-- The latest life that the commands, in their order, leave unstopped.
--
-- A life ends at the least of: the next `stop` that is accepted, the due time of an acquisition
-- that wasn't found, and the dump with which the loops answer that the signal is lost. For a
-- command the slot is idle where no life has begun before it, in order, that has not ended.
--
-- The commands are gone through in their order, and one life is kept, the latest. That says the
-- same, for these reasons. A start is accepted only where no life is on, so that of all lives that
-- have begun only the latest can still be on. Whether samples have ended it by some time is asked
-- of the samples up to that time and of the life alone (`is_over`); what samples have ended stays
-- ended (the law `ends_stay`), so it doesn't matter when one asks. And a `stop` ends it where it is
-- on.
unfoldable pub life_of : Settings → List Sample → List TimedRequest → Option Life
life_of settings xs commands = fold (life_after settings xs) None commands

-- the life that is on after the last sample, and after commands that have all come by then
unfoldable pub life_now : Settings → List Sample → List TimedRequest → Option Life
life_now settings xs commands = still_on settings xs (life_of settings xs commands)
