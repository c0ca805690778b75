-- Where a history has all samples from the first on, a slot finds what it looks at.
use Rattle.std.proofs.Common.{◌≡◌, ◌≤◌, ℕ, arith}
use Rattle.sample_history.specs.Histories as histories
use Rattle.channels.specs.declared.window.Window.{Window}
use Rattle.channels.specs.Windows.{first_of, history_of}
use Rattle.channel_slots.specs.declared.stage.Stage.{Stage}
use Rattle.channel_slots.specs.declared.stage.Stage.TheVariants.{Idle, Searching, Following}
use Rattle.channel_slots.specs.declared.slot.Slot.{Slot}
use Rattle.channel_slots.specs.Stages as stages
use Rattle.channel_slots.specs.Slots.{IsReady, IsReadyIn}

pub ready-later : (w : Window) (time to : ℕ) (slot : Slot)
    → histories.first_of (history_of w) ≡ 0 → time ≤ to → IsReady 0 (first_of w) time slot
    → IsReadyIn w to slot
ready-later w time to slot zero later ready = rw zero (by_stage slot.stage ready)
  where
    by_stage : (stage : Stage) → stages.IsReady 0 (first_of w) time stage
        → stages.IsReady 0 (first_of w) to stage
    by_stage Idle ready = tt
    by_stage (Searching s) ready = ready
    by_stage (Following f) ready = (ready.0, omega (arith, ready.1, later))
