-- What samples bring to a life, and what its stage follows after them.
use Rattle.std.proofs.Common.{◌≡◌, ℕ, ◌<◌, List, [], ◌∷◌, ◌++◌, length, take, false}
use Rattle.std.specs.Prelude.{Bool, Option, Some, None, nat_lt}
use Rattle.definitions.specs.Samples.{Sample}
use Rattle.definitions.specs.Oscillators.{Settings}
use Rattle.definitions.specs.Lives.{Life, dumps_of_life, is_over}
use Rattle.definitions.specs.Events.{unprinted_count, count, acquired, life_events, when}
use Rattle.acquisition.specs.Cells.{cell_in}
use Rattle.lane_correlator.specs.Counting.{counts_in}
use Rattle.channels.specs.Dumps.{steered_events_in}
use Rattle.acquisition.specs.declared.cell.Cell.{Cell}
use Rattle.channels.specs.declared.dump.Dump.{Dump}
use Rattle.channel_slots.specs.declared.stage.Stage.{Stage}
use Rattle.channel_slots.specs.Stages.{Follows}

-- what comes with a sample, whole: the cell that the search for a satellite names, or a dump and
-- whether its sums are printed
pub data Told : Type 0 where
  Acquired : ℕ → Cell → Told
  Dumped : Dump → Bool → Told

-- what ys after xs bring to a life is what was answered: nothing, the cell that its acquisition
-- names, or a dump with the last of them, whose sums are emitted where they are wanted, and then
-- its news
abbrev pub Brings : Settings → List Sample → List Sample → Life → Option Told → Type 0
Brings settings xs ys life None =
    (dumps_of_life settings (xs ++ ys) life ≡ dumps_of_life settings xs life)
    × (life_events settings (xs ++ ys) (Some life) ≡ [])
Brings settings xs ys life (Some (Acquired prn cell)) =
    (dumps_of_life settings (xs ++ ys) life ≡ dumps_of_life settings xs life)
    × (life_events settings (xs ++ ys) (Some life) ≡ acquired prn (cell_in cell) ∷ [])
Brings settings xs ys life (Some (Dumped d is_shown)) =
    (dumps_of_life settings (xs ++ ys) life ≡ dumps_of_life settings xs life
    ++ record { time = length (xs ++ ys); counts = counts_in d.counts } ∷ [])
    × (life_events settings (xs ++ ys) (Some life)
    ≡ when (nat_lt 0 (unprinted_count life (dumps_of_life settings xs life)))
    (count (counts_in d.counts)) ++ steered_events_in d)

-- with ys after xs the life emits nothing before the last of them, and then what was answered
pub record Takes (settings : Settings) (xs ys : List Sample) (life : Life) (stage : Stage)
    (news : Option Told) : Type 0 where
  pub inside : (j : ℕ) → 0 < j → j < length ys
      → life_events settings (xs ++ take j ys) (Some life) ≡ []
  pub on : (j : ℕ) → j < length ys → is_over settings (xs ++ take j ys) life ≡ false
  pub brings : Brings settings xs ys life news
  pub follows : Follows settings (xs ++ ys) life stage
