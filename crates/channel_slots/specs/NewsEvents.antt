-- The events that come with a dump of a slot, in their order.
use Rattle.std.specs.Prelude.{ℕ, Bool, if◌then◌else◌, List, [], ◌∷◌, ◌++◌, Option, Some, None}
use Rattle.std.specs.Prelude.{option_map}
use Rattle.lane_correlator.specs.declared.counts.Counts.{Counts}
use Rattle.tracking_loops.specs.declared.news.News.{News}
use Rattle.tracking_loops.specs.declared.news.News.TheVariants as locks
use Rattle.frame_sync.specs.declared.sync.Found.{Found}
use Rattle.data_sets.specs.declared.reports.Reports.{Reports}
use Rattle.nav_message.specs.declared.news.MessageNews.{MessageNews}
use Rattle.nav_message.specs.declared.news.MessageNews.TheVariants as messages
use Rattle.channels.specs.declared.dump.Dump.{Dump}
use Rattle.slot_protocol.specs.declared.event.Event.{Event}
use Rattle.slot_protocol.specs.declared.event.Event.TheVariants as events
use Rattle.channel_slots.specs.declared.slot_news.SlotNews.{SlotNews}
use Rattle.channel_slots.specs.declared.slot_news.SlotNews.TheVariants as slot_news

abbrev pub if_any : Option Event → List Event
if_any None = []
if_any (Some event) = event ∷ []

-- the sums of a dump, if they are printed
abbrev pub count_events : Bool → Counts → List Event
count_events is_shown counts = if is_shown then events.Count counts ∷ [] else []

abbrev pub lock_events : News → List Event
lock_events locks.Nothing = []
lock_events locks.Lock = events.Lock ∷ []
lock_events locks.Unlock = events.Unlock ∷ []
lock_events locks.Lost = events.Lost ∷ []

-- a subframe, with the gap before it and what its page makes reported
abbrev pub frame_events : Found → Reports → List Event
frame_events found reports =
    if_any (option_map events.Gap found.gap) ++ (events.Sub found.subframe
    ∷ (if_any (option_map events.Page reports.page)
    ++ if_any (option_map events.Almanacs reports.set)))

abbrev pub message_events : MessageNews → List Event
message_events messages.Nothing = []
message_events messages.Edge = events.Bits ∷ []
message_events (messages.Frame found reports) = frame_events found reports

-- of a dump its sums, if they are printed, a change of the lock, and what the message brings
abbrev pub dump_events : Bool → Dump → List Event
dump_events is_shown dump =
    count_events is_shown dump.counts
    ++ (lock_events dump.lock ++ message_events dump.message)

-- what an acquisition names, or what is emitted with a dump, which is the window's
abbrev pub events_with : SlotNews → Dump → List Event
events_with (slot_news.Acquired time prn cell) dump = events.Acquired prn cell ∷ []
events_with (slot_news.Dump time is_shown) dump = dump_events is_shown dump

-- and when
abbrev pub time_of : SlotNews → ℕ
time_of (slot_news.Acquired time prn cell) = time
time_of (slot_news.Dump time is_shown) = time

-- how far a slot has gone that was to go to a number
abbrev pub time_after : ℕ → Option SlotNews → ℕ
time_after most None = most
time_after most (Some news) = time_of news

-- all that is emitted, if anything is
abbrev pub events_of : Option SlotNews → Dump → List Event
events_of None dump = []
events_of (Some news) dump = events_with news dump
