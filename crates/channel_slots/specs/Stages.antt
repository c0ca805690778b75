-- What a stage follows over the samples so far.
use Rattle.std.specs.Prelude.{◌≡◌, ◌≤◌, ◌<◌, ◌+◌, ◌*◌, if◌then◌else◌, ℕ, ⊤}
use Rattle.std.specs.Coded.{×_prop, Unit-prop, le_prop}
use Rattle.std.specs.Prelude.{Bool, true, false, List, length, Option, Some, None}
use Rattle.definitions.specs.Samples.{Sample}
use Rattle.definitions.specs.Oscillators.{Settings}
use Rattle.acquisition.specs.declared.cell.Cell.{Cell}
use Rattle.acquisition.specs.Cells.{cell_in}
use Rattle.definitions.specs.Segments.{Channel}
use Rattle.definitions.specs.Acquisition.{Plan}
use Rattle.definitions.specs.Commands.{acquire}
use Rattle.definitions.specs.Lives.{Life, found_channel, channel_of, is_steered}
use Rattle.definitions.specs.Lives.{is_over, lost_after}
use Rattle.tracking_loops.specs.declared.news.News.{News}
use Rattle.channels.specs.declared.followed.Followed.{Followed}
use Rattle.channels.specs.declared.searched.Searched.{Searched}
use Rattle.channels.specs.Searching as searched
use Rattle.channels.specs.Searching.{Searches}
use Rattle.channels.specs.Dumps.{is_loss}
use Rattle.channels.specs.FollowedChannels as followed
use Rattle.channels.specs.FollowedChannels.{HasBegun, counts_so_far}
use Rattle.channel_slots.specs.declared.stage.Stage.{Stage}
use Rattle.channel_slots.specs.declared.stage.Stage.TheVariants.{Idle, Searching, Following}
use Rattle.channel_slots.specs.declared.slot_news.TheConstants.{DUMP_EVENTS}
use Rattle.channel_slots.specs.declared.slot.TheConstants.{NEVER}

-- whether it follows nothing
abbrev pub is_idle : Stage → Bool
is_idle Idle = true
is_idle (Searching s) = false
is_idle (Following f) = false

-- whether it searches
abbrev pub is_searching : Stage → Bool
is_searching Idle = false
is_searching (Searching s) = true
is_searching (Following f) = false

-- how many cells its search has done: none where it doesn't search
abbrev pub cells_done_of : Stage → Option ℕ
cells_done_of Idle = None
cells_done_of (Searching s) = Some (searched.done_of s)
cells_done_of (Following f) = None

-- with how many samples of the recording it has something to do next: a cell, or a dump
abbrev pub next_event : Stage → ℕ
next_event Idle = NEVER
next_event (Searching s) = searched.next_cell s
next_event (Following f) = followed.next_dump f

-- how many events may come with the open samples that it hasn't taken: those of a dump, and the
-- answer of an acquisition before it
abbrev pub chance : Stage → ℕ
chance Idle = 0
chance (Searching s) = 1 + DUMP_EVENTS
chance (Following f) = DUMP_EVENTS * followed.chance f

-- it finds all that it looks at up to number `to`, where the samples from number `held` on are
-- held, and those from number `first` on are open: one that searches its dwell, and what it finds
-- the samples after it, and a channel those that it hasn't taken
abbrev pub IsReady : ℕ → ℕ → ℕ → Stage → Type 0
IsReady held first to Idle = ⊤
IsReady held first to (Searching s) =
    (held ≤ searched.start_of s) × (first ≤ searched.due_of s)
IsReady held first to (Following f) = (first ≤ followed.at_of f) × (followed.at_of f ≤ to)

pub IsReady-prop : (held first to : ℕ) (stage : Stage) → IsProp (IsReady held first to stage)
IsReady-prop held first to Idle = Unit-prop
IsReady-prop held first to (Searching s) = ×_prop le_prop le_prop
IsReady-prop held first to (Following f) = ×_prop le_prop le_prop

-- what a slot follows after a dump with this news of the lock: nothing where the signal is lost
abbrev pub after_dump : News → Stage → Stage
after_dump lock stage = if is_loss lock then Idle else stage

-- what a search leaves with the cell that it named: the signal that was found, tracked from the
-- due time on, and nothing where none was
abbrev pub IsSettled : Cell → Searched → Stage → Type 0
IsSettled cell s Idle = cell.found ≡ false
IsSettled cell s (Searching other) = ⊥
IsSettled cell s (Following f) =
    (cell.found ≡ true)
    × ((settings : Settings) (plan : Plan) (begun : ℕ) (xs : List Sample)
    → length xs ≡ searched.due_of s → Searches settings plan begun xs s
    → followed.Follows settings (found_channel settings plan begun (cell_in cell)) xs f)
    × HasBegun (searched.due_of s) true f

-- a life that began with an acquisition has come as far with it, and it isn't due yet
pub record IsSearched (settings : Settings) (xs : List Sample) (life : Life) (s : Searched)
    : Type 0 where
  pub plan : Plan
  pub start : life.start ≡ acquire plan
  pub searches : Searches settings plan life.begun xs s
  pub waits : length xs < searched.due_of s

-- a life follows the channel that its start has given it, steered by loops or not, and the signal
-- isn't lost where they steer it
pub record IsFollowed (settings : Settings) (xs : List Sample) (life : Life) (f : Followed)
    : Type 0 where
  pub channel : Channel
  pub given : channel_of settings xs life.begun life.start ≡ Some channel
  pub steered : followed.is_steered f ≡ is_steered life.start
  pub follows : followed.Follows settings channel xs f
  pub not_lost : is_steered life.start ≡ true
      → lost_after (counts_so_far settings channel xs) ≡ None

-- a stage follows a life, and is idle where the life is over
abbrev pub Follows : Settings → List Sample → Life → Stage → Type 0
Follows settings xs life Idle = is_over settings xs life ≡ true
Follows settings xs life (Searching s) = IsSearched settings xs life s
Follows settings xs life (Following f) = IsFollowed settings xs life f
