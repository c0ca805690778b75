-- The news that dumps bring beside their sums.
use Rattle.std.specs.Prelude.{Bool, true, false, List, ◌++◌, Option, Some, None}
use Rattle.definitions.specs.Events.{Event, news_events}
use Rattle.lane_correlator.specs.declared.counts.Counts.{Counts}
use Rattle.tracking_loops.specs.NewsIn.{news_in}
use Rattle.tracking_loops.specs.declared.news.News.{News}
use Rattle.tracking_loops.specs.declared.news.News.TheVariants as locks
use Rattle.nav_message.specs.News.{events_in}
use Rattle.nav_message.specs.declared.news.MessageNews.TheVariants as messages
use Rattle.channels.specs.declared.dump.Dump.{Dump}

-- with nothing beside its sums
abbrev pub plain_dump : Counts → Dump
plain_dump counts = record { counts = counts; lock = locks.Nothing; message = messages.Nothing }

-- what is in the room for a dump, where one came
abbrev pub dump_if : Bool → Dump → Option Dump
dump_if true dump = Some dump
dump_if false dump = None

-- the news that a dump brings beside its sums
abbrev pub steered_events_in : Dump → List Event
steered_events_in d = news_events (news_in d.lock) ++ events_in d.message

-- the signal is lost with it
abbrev pub is_loss : News → Bool
is_loss locks.Nothing = false
is_loss locks.Lock = false
is_loss locks.Unlock = false
is_loss locks.Lost = true
