-- What a satellite that is searched for stands for: an acquisition over the samples so far.
use Rattle.std.specs.Prelude.{◌≡◌, ◌≤◌, ◌<◌, ◌+◌, ◌*◌, ℕ, List, length, min, Option, Some, None}
use Rattle.definitions.specs.Samples.{Sample}
use Rattle.definitions.specs.Oscillators.{Settings}
use Rattle.definitions.specs.Acquisition.{Plan, cell_count, cells_done, due_time, result_of}
use Rattle.acquisition.specs.declared.cell.Cell.{Cell}
use Rattle.acquisition.specs.Cells.{cell_in}
use Rattle.acquisition.specs.Searches as searches
use Rattle.channels.specs.declared.searched.Searched.{Searched}

-- what it searches
abbrev pub plan_of : Searched → Plan
plan_of s = searches.plan_of s.search

-- the number of the first sample of its dwell
abbrev pub start_of : Searched → ℕ
start_of s = searches.start_of s.search

-- how many cells it has done
abbrev pub done_of : Searched → ℕ
done_of s = searches.done_of s.search

-- the time at which its answer is due, and that of the next cell: where all are done it is the same
abbrev pub due_of : Searched → ℕ
due_of s = searches.end_of s.search + 4 * cell_count (plan_of s)

abbrev pub next_cell : Searched → ℕ
next_cell s = min (searches.end_of s.search + 4 * (done_of s + 1)) (due_of s)

-- one that begins with sample `start`: what it searches, and when its answer is due
pub record Begins (settings : Settings) (plan : Plan) (start : ℕ) (s : Searched) : Type 0 where
  pub searched : plan_of s ≡ plan
  pub begun : start_of s ≡ start
  pub none : done_of s ≡ 0
  pub due : due_of s ≡ due_time settings plan start
  pub waits : start < due_of s

-- a source of the samples from one on up to another has all that it looks at up to number `most`
pub record IsReady (first end most : ℕ) (s : Searched) : Type 0 where
  pub from : first ≤ start_of s
  pub to : min most (due_of s) ≤ end

-- it searches the same, its answer is due at the same time, and its next cell comes after `to`
pub record IsLater (to : ℕ) (old new : Searched) : Type 0 where
  pub plan : plan_of new ≡ plan_of old
  pub start : start_of new ≡ start_of old
  pub due : due_of new ≡ due_of old
  pub next : to < due_of old → to < next_cell new

-- an acquisition of this plan, from sample begun on, has come as far as the samples xs bring it
pub record Searches (settings : Settings) (plan : Plan) (begun : ℕ) (xs : List Sample)
    (s : Searched) : Type 0 where
  pub recorded : s.settings ≡ settings
  pub search : searches.StandsFor settings plan begun xs s.search
  pub begins : begun ≤ length xs
  pub done : done_of s ≡ cells_done settings plan begun (length xs)

-- what was answered after the samples zs: nothing where the answer isn't due yet, and where it is
-- due with the last of them, the cell that the acquisition names
abbrev pub Answers : Settings → Plan → ℕ → List Sample → Option Cell → Type 0
Answers settings plan begun zs None = length zs < due_time settings plan begun
Answers settings plan begun zs (Some cell) =
    (length zs ≡ due_time settings plan begun)
    × (cell_in cell ≡ result_of settings plan zs begun)

-- it has come as far as the samples zs bring it, and this was answered
pub record Takes (settings : Settings) (plan : Plan) (begun : ℕ) (zs : List Sample)
    (cell : Option Cell) (s : Searched) : Type 0 where
  pub stands : Searches settings plan begun zs s
  pub answers : Answers settings plan begun zs cell
