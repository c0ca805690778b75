-- What a reader and a writer show at one moment.
use Rattle.std.specs.Prelude.{ℕ, Bool, List, Option}
use Rattle.devices.specs.declared.source.Source.{Ghosts as Source}
use Rattle.devices.specs.declared.sink.Sink.{Ghosts as Sink}

-- what a reader and a writer show: the bytes to come and those held, whether a call has failed, and
-- whether a read has given no byte
pub record Devices : Type 0 where
  pub remaining : Option (List ℕ)
  pub read_failed : Bool
  pub gave_none : Bool
  pub contents : Option (List ℕ)
  pub write_failed : Bool

-- what they show at one moment, by the members of their traits
abbrev pub devices_at : {R W : Type 0} → Source R → Sink W → R → W → Devices
devices_at source sink reader writer = record {
  remaining = source.remaining reader;
  read_failed = source.has_failed reader;
  gave_none = source.gave_none reader;
  contents = sink.contents writer;
  write_failed = sink.has_failed writer;
}
