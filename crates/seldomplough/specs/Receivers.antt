-- What a receiver stands for, and what it emits.
use Rattle.std.specs.Prelude.{◌≡◌, ◌≤◌, ◌<◌, ◌+◌, ◌++◌, ◌⊎◌, ℕ, List, length, filter, flat_map}
use Rattle.std.specs.Prelude.{nat_eq}
use Rattle.std.specs.List.{range_with_len}
use Rattle.definitions.specs.Samples.{Sample, Packing, samples, sample_count, samples_per_byte}
use Rattle.definitions.specs.Oscillators.{Settings}
use Rattle.definitions.specs.Commands.{TimedRequest}
use Rattle.definitions.specs.Events.{events_at_end}
use Rattle.definitions.specs.Banks.{SlotEvent as DefinedSlotEvent, slot_events}
use Rattle.definitions.specs.Receiver.{at_each_sample}
use Rattle.slot_protocol.specs.declared.event.SlotEvent.{SlotEvent}
use Rattle.slot_protocol.specs.Events.{AreEvents}
use Rattle.sample_planes.specs.declared.planes.TheConstants.{MAX_SAMPLES}
use Rattle.sample_planes.specs.declared.planes.TheConstants.{MOST_TIME}
use Rattle.channel_slots.specs.BankStates as banks
use Rattle.channel_slots.specs.Timelines as timelines
use Rattle.seldomplough.specs.declared.receiver.Receiver.{Receiver}

-- the settings, the samples so far, and for each client and slot its commands so far
abbrev pub StandsFor : Settings → List Sample → (ℕ → ℕ → List TimedRequest) → Receiver → Type 0
StandsFor settings xs asked r = banks.StandsFor settings xs asked r.bank

-- what is known of the recording
abbrev pub settings_of : Receiver → Settings
settings_of r = banks.settings_of r.bank

abbrev pub packing_in : Receiver → Packing
packing_in r = (settings_of r).packing

-- how many slots each of its clients has, and how many the client of a number has
abbrev pub shares_of : Receiver → List ℕ
shares_of r = banks.shares_of r.bank

abbrev pub share_of : Receiver → ℕ → ℕ
share_of r client = banks.share_of r.bank client

-- how many samples there were
abbrev pub time_of : Receiver → ℕ
time_of r = banks.time_of r.bank

-- the events of the samples that came last
abbrev pub events_in : Receiver → List SlotEvent
events_in r = timelines.events_in r.timeline

-- those of one client among them
abbrev pub events_for : ℕ → List SlotEvent → List SlotEvent
events_for client events = filter (λ (e : SlotEvent). nat_eq e.client client) events

-- what the last sample makes a client's slots emit, slot by slot, where `commands` gives those to
-- each slot
abbrev pub client_events_at_end : Settings → ℕ → ℕ → (ℕ → List TimedRequest) → List Sample
    → List DefinedSlotEvent
client_events_at_end settings client share commands xs =
    flat_map (λ slot. slot_events client slot (length xs)
    (events_at_end settings xs (commands slot))) (range_with_len 0 share)

-- whatever a receiver stood for: these events are for each client what a receiver with that client
-- alone emits over a run of samples. Nothing here names another client's slots or commands.
abbrev pub EmitsAlone : Receiver → List Sample → List SlotEvent → Type 0
EmitsAlone old run events =
    (settings : Settings) (xs : List Sample) (asked : ℕ → ℕ → List TimedRequest)
    → StandsFor settings xs asked old → (client : ℕ) → 1 ≤ client
    → AreEvents (events_for client events) (at_each_sample
    (client_events_at_end settings client (share_of old client) (asked client)) xs run)

-- a receiver took the first of some bytes, as many as can be taken at once, and others are left
pub record TakesFront (bytes rest : List ℕ) (old new : Receiver) : Type 0 where
  pub taken : List ℕ
  pub split : bytes ≡ taken ++ rest
  pub some : 0 < length bytes → 0 < length taken
  pub few : sample_count (packing_in old) taken ≤ MAX_SAMPLES
  pub most : (0 < length rest)
      → (MAX_SAMPLES < sample_count (packing_in old) taken + samples_per_byte (packing_in old))
      ⊎ (MOST_TIME < time_of new + samples_per_byte (packing_in old))
  pub takes : banks.Takes old.bank (samples (packing_in old) taken) new.bank (events_in new)
  pub alone : EmitsAlone old (samples (packing_in old) taken) (events_in new)
  pub time : time_of new ≡ time_of old + sample_count (packing_in old) taken
  pub settings_same : settings_of new ≡ settings_of old
  pub shares_same : shares_of new ≡ shares_of old
