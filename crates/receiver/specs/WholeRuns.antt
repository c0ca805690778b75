-- What a run promises.
use Rattle.std.specs.Prelude.{◌≡◌, ◌≤◌, ◌<◌, ◌⊎◌, ◌↔◌, ℕ, false, length, Result, Err}
use Rattle.channel_slots.specs.declared.seats.TheConstants.{MOST_CLIENTS}
use Rattle.definitions.specs.Runs.{Task, are_shares}
use Rattle.devices.specs.Moments.{devices_at}
use Rattle.devices.specs.declared.source.Source.{Ghosts as Source}
use Rattle.devices.specs.declared.sink.Sink.{Ghosts as Sink}
use Rattle.receiver.specs.declared.faults.RunFault.{RunFault}
use Rattle.receiver.specs.declared.faults.RunFault.TheVariants.{Clients, Share, NoMemory}
use Rattle.receiver.specs.Runs.{IsRun}

-- a run of a task takes a reader and a writer from `old` to `new`, and has this result
pub record RunsTask {R W : Type 0} (source : Source R) (sink : Sink W) (task : Task)
    (old new : R × W) (result : Result ℕ RunFault) : Type 0 where
  -- the scripts are refused exactly where there is none, or there are more than eight
  pub clients : (result ≡ Err Clients)
      ↔ ((length task.scripts ≡ 0) ⊎ (MOST_CLIENTS < length task.scripts))
  -- else the shares are refused exactly where they aren't one of 1 to 8 slots for each script
  pub share : (result ≡ Err Share) ↔ ((0 < length task.scripts)
      × (length task.scripts ≤ MOST_CLIENTS) × (are_shares task.shares task.scripts ≡ false))
  -- a run that is refused, or has no memory, leaves the reader and the writer as they were
  pub untouched : (result ≡ Err Clients) ⊎ (result ≡ Err Share) ⊎ (result ≡ Err NoMemory)
      → new ≡ old
  -- a reader that hadn't failed before the run isn't asked again once it has failed
  pub once : source.has_failed old.0 ≡ false
      → source.was_asked_again new.0 ≡ source.was_asked_again old.0
  -- the text that is written and the result are those defined for the bytes that were read
  pub run : IsRun task (devices_at source sink old.0 old.1) (devices_at source sink new.0 new.1)
      result
