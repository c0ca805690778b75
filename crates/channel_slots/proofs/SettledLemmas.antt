-- What is known of a slot's stage where its search has named a cell, at the due time.
use Rattle.std.proofs.Common.{◌≤◌, ◌<◌, ℕ, arith}
use Rattle.acquisition.specs.declared.cell.Cell.{Cell}
use Rattle.channels.specs.Searching.{due_of}
use Rattle.channels.specs.declared.searched.Searched.{Searched}
use Rattle.channels.proofs.ChanceLemmas as segments
use Rattle.channel_slots.specs.declared.slot.TheConstants.{NEVER}
use Rattle.channel_slots.specs.declared.stage.Stage.{Stage}
use Rattle.channel_slots.specs.declared.stage.Stage.TheVariants.{Idle, Searching, Following}
use Rattle.channel_slots.specs.Stages.{IsSettled, IsReady, chance, next_event}

pub settled-ready : (held first to : ℕ) (cell : Cell) (s : Searched) (stage : Stage)
    → IsSettled cell s stage → first ≤ due_of s → due_of s ≤ to → IsReady held first to stage
settled-ready held first to cell s Idle settled begun come = tt
settled-ready held first to cell s (Searching other) settled begun come = absurd settled
settled-ready held first to cell s (Following f) settled begun come =
    (omega (arith, settled.2.at, begun), omega (arith, settled.2.at, come))

pub settled-later : (cell : Cell) (s : Searched) (stage : Stage) → IsSettled cell s stage
    → due_of s < NEVER → due_of s < next_event stage
settled-later cell s Idle settled early = early
settled-later cell s (Searching other) settled early = absurd settled
settled-later cell s (Following f) settled early =
    omega (arith, settled.2.at, f.follower.waits)

pub settled-chance : (cell : Cell) (s : Searched) (stage : Stage) → IsSettled cell s stage
    → chance stage ≤ 6
settled-chance cell s Idle settled = omega arith
settled-chance cell s (Searching other) settled = absurd settled
settled-chance cell s (Following f) settled = omega (arith, segments.one-chance f.follower)
