-- What holds of numbers of every size, beyond what a worked example can compute. Each law is
-- promised by a function of the same name in this crate. (This project's own.)
use Rattle.std.specs.Prelude.{ℕ, ◌≡◌, ◌+◌, ◌*◌, ◌<◌, ◌≤◌, ◌↔◌, Bool, true, false, nat_lt, pos}
use Rattle.std.specs.Prelude.{◌+ℤ◌, ◌-ℤ◌, ◌*ℤ◌, List, [], ◌∷◌, ◌++◌, length, filter, slice_get}
use Rattle.std.specs.Prelude.{Some}
use Rattle.std.specs.Prelude.{if◌then◌else◌, count_by}
use Rattle.std.specs.Fmt.{decimal}
use Rattle.definitions.specs.Samples.{Sample}
use Rattle.definitions.specs.Oscillators.{Settings}
use Rattle.definitions.specs.Segments.{Channel, Dump}
use Rattle.definitions.specs.Acquisition.{Plan, cell_count, bin_of, half_chip_of, cell_shift}
use Rattle.definitions.specs.Commands.{TimedRequest, counts, state}
use Rattle.definitions.specs.Lines.{words_of}
use Rattle.definitions.specs.Lives.{Life, channel_of, dumps_of_life, life_now}
use Rattle.definitions.specs.Events.{Event, acquired, count, locked, unlocked, signal_lost, edge}
use Rattle.definitions.specs.Events.{gap, subframe, reported, almanacs, events_at_end, front_of}
use Rattle.definitions.specs.Events.{last_of}
use Rattle.definitions.specs.Answers.{answer_at_end}
use Rattle.definitions.specs.Texts.{answer_text}

-- ---- dumps that are printed

abbrev pub is_count : Event → Bool
is_count event = elim event [
  | count c ↦ true
  | acquired prn cell ↦ false
  | locked ↦ false
  | unlocked ↦ false
  | signal_lost ↦ false
  | edge ↦ false
  | gap n ↦ false
  | subframe s ↦ false
  | reported r ↦ false
  | almanacs set ↦ false
]

-- how many dumps end after a time
abbrev pub ended_after : ℕ → List Dump → ℕ
ended_after time dumps = count_by (λ (d : Dump). nat_lt time d.time) dumps

-- the commands, and then `counts` with a number
abbrev pub with_counts : List TimedRequest → ℕ → ℕ → List TimedRequest
with_counts commands time number =
    commands ++ record { time = time; request = counts number } ∷ []

-- After `counts` with a number just so many dumps are printed: the one that the last sample ends is
-- printed, once, where fewer have ended before it since the time of that command.
abbrev pub NextDumpsArePrinted : Type 0
NextDumpsArePrinted = (settings : Settings) (xs : List Sample) (commands : List TimedRequest)
    (time number : ℕ) (life : Life) (d : Dump)
    → life_now settings (front_of xs) (with_counts commands time number) ≡ Some life
    → last_of (dumps_of_life settings xs life) ≡ Some d → d.time ≡ length xs
    → filter is_count (events_at_end settings xs (with_counts commands time number))
    ≡ (if nat_lt (ended_after time (front_of (dumps_of_life settings xs life))) number
    then count d.counts ∷ [] else [])

-- The fifth word of the answer to `state` is the number of all dumps so far, where a satellite is
-- followed.
abbrev pub StatesCountAllDumps : Type 0
StatesCountAllDumps = (settings : Settings) (xs : List Sample) (commands : List TimedRequest)
    (slot : ℕ) (life : Life) (channel : Channel) → life_now settings xs commands ≡ Some life
    → channel_of settings xs life.begun life.start ≡ Some channel
    → slice_get (words_of (answer_text slot (answer_at_end settings xs commands state))) 4
    ≡ Some (decimal (length (dumps_of_life settings xs life)))

-- ---- cells

-- Each bin has 2,046 half chips, bin number b is b bins of 250 Hz above the lowest, and there are
-- twice as many bins as to one side, and one.
abbrev pub CellsGoByBins : Type 0
CellsGoByBins = (plan : Plan) (b h : ℕ) → h < 2046
    → (bin_of plan (2046 * b + h) ≡ pos b -ℤ pos plan.bins)
    × (half_chip_of (2046 * b + h) ≡ h)
    × ((cell_shift plan (2046 * b + h)).v
    ≡ (plan.centre -ℤ pos (250 * plan.bins) +ℤ pos (250 * b)) *ℤ pos 65536)
    × ((2046 * b + h < cell_count plan) ↔ (b ≤ plan.bins + plan.bins))
