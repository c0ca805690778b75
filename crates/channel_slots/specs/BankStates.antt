-- What a bank stands for.
use Rattle.std.specs.Prelude.{◌≡◌, ◌≤◌, ◌<◌, ◌+◌, ◌-◌, ◌/◌, ◌++◌, ◌⊎◌, ℕ, List, length, get_or}
use Rattle.std.specs.Prelude.{Option, Some}
use Rattle.std.specs.Box.{boxed_slice_items}
use Rattle.definitions.specs.Samples.{Sample}
use Rattle.definitions.specs.Receiver.{at_each_sample}
use Rattle.definitions.specs.Banks.{bank_events_at_end, layout}
use Rattle.definitions.specs.Oscillators.{Settings}
use Rattle.definitions.specs.Commands.{TimedRequest}
use Rattle.channel_slots.specs.declared.bank.Bank.{Bank}
use Rattle.slot_protocol.specs.declared.event.SlotEvent.{SlotEvent}
use Rattle.sample_planes.specs.PackedRuns.{PackedRun}
use Rattle.sample_planes.specs.declared.planes.TheConstants.{MAX_SAMPLES}
use Rattle.sample_planes.specs.declared.planes.TheConstants.{MOST_TIME}
use Rattle.channels.specs.Windows as windows
use Rattle.channel_slots.specs.Banks.{BankStands, cells_done_at}
use Rattle.slot_protocol.specs.Events.{AreEvents}

-- how many samples there were
abbrev pub time_of : Bank → ℕ
time_of bank = windows.end_of bank.window

-- how many slots each of its clients has
abbrev pub shares_of : Bank → List ℕ
shares_of bank = bank.shares.items

-- that of one of them, of those that are numbered from 1; none where no client has that number
abbrev pub share_of : Bank → ℕ → ℕ
share_of bank client = get_or (shares_of bank) (client - 1) 0

-- a client has a slot of that number: the slots of each are numbered from 0
abbrev pub HasSlot : Bank → ℕ → ℕ → Type 0
HasSlot bank client slot = (1 ≤ client) × (slot < share_of bank client)

-- no client has that number, or the slot is none of its share
abbrev pub LacksSlot : Bank → ℕ → ℕ → Type 0
LacksSlot bank client slot = (client ≡ 0) ⊎ (share_of bank client ≤ slot)

-- what is known of the recording
abbrev pub settings_of : Bank → Settings
settings_of bank = bank.settings

-- how many cells the search of a client's slot has done: none where it isn't acquiring, or no
-- client has that number
abbrev pub cells_done_in : Bank → ℕ → ℕ → Option ℕ
cells_done_in bank client slot = cells_done_at (boxed_slice_items bank.seats) client slot

-- a run of samples that the bank takes: one of the recording's packing, neither too long by itself
-- nor for the recording
abbrev pub Fits : Bank → PackedRun → Type 0
Fits bank run = (run.packing ≡ (settings_of bank).packing)
    × (length run.samples ≤ MAX_SAMPLES) × (time_of bank + length run.samples ≤ MOST_TIME)

-- the settings, the samples so far, and for each client and slot its commands so far
pub record StandsFor (settings : Settings) (xs : List Sample)
    (asked : ℕ → ℕ → List TimedRequest) (bank : Bank) : Type 0 where
  pub recorded : bank.settings ≡ settings
  pub now : time_of bank ≡ length xs
  pub window : windows.StandsFor xs bank.window
  pub slots : BankStands settings xs asked (time_of bank) (boxed_slice_items bank.seats)

-- the same recording, and the same slots for each client
pub record IsSame (old new : Bank) : Type 0 where
  pub settings : settings_of new ≡ settings_of old
  pub shares : shares_of new ≡ shares_of old

-- these events are what a bank's slots emit over a run of samples, after which it stands for the
-- same with these samples; a search that goes on has done at most m / 4 + 1 cells over m of them
pub record HasTaken (settings : Settings) (xs run : List Sample)
    (asked : ℕ → ℕ → List TimedRequest) (old new : Bank) (events : List SlotEvent) : Type 0 where
  pub told : AreEvents events
      (at_each_sample (bank_events_at_end settings (layout (shares_of old)) asked) xs run)
  pub stands : StandsFor settings (xs ++ run) asked new
  pub work : (client slot before after : ℕ)
      → cells_done_in old client slot ≡ Some before → cells_done_in new client slot ≡ Some after
      → after ≤ before + (length run / 4 + 1)

-- so it is, whatever the bank stood for before
pub record Takes (old : Bank) (run : List Sample) (new : Bank) (events : List SlotEvent)
    : Type 0 where
  pub taken : (settings : Settings) (xs : List Sample) (asked : ℕ → ℕ → List TimedRequest)
      → StandsFor settings xs asked old → HasTaken settings xs run asked old new events
  pub time : time_of new ≡ time_of old + length run
