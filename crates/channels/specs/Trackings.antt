-- What loops with a message stand for: the sums of a channel's dumps.
use Rattle.std.specs.Prelude.{◌≡◌, ℕ, ℤ, List}
use Rattle.definitions.specs.Oscillators.{Settings}
use Rattle.definitions.specs.Correlation.{Counts}
use Rattle.definitions.specs.Lock.{news_of}
use Rattle.definitions.specs.Events.{steered_events}
use Rattle.tracking_loops.specs.NewsIn.{news_in}
use Rattle.tracking_loops.specs.Standing as loops
use Rattle.channels.specs.LockedMessages as messages
use Rattle.channels.specs.Dumps.{steered_events_in}
use Rattle.channels.specs.declared.dump.Dump.{Dump}
use Rattle.channels.specs.declared.tracking.Tracking.{Tracking}

-- how many dumps they have had
abbrev pub dump_count : Tracking → ℕ
dump_count s = loops.dump_count s.loops

-- what is known of the recording
abbrev pub settings_of : Tracking → Settings
settings_of s = s.settings

-- loops that began with this shift have had these dumps, and read their message
pub record StandsFor (settings : Settings) (shift : ℤ) (dumps : List Counts) (s : Tracking)
    : Type 0 where
  pub recorded : s.settings ≡ settings
  pub loops : loops.StandsFor shift dumps s.loops
  pub message : messages.StandsFor dumps s.message

-- a dump brings the news of the last of these
pub record Tells (dumps : List Counts) (d : Dump) : Type 0 where
  pub lock : news_in d.lock ≡ news_of dumps
  pub events : steered_events_in d ≡ steered_events dumps
