-- The events that come with a dump, as the definitions have them, and how many they are.
use Rattle.std.proofs.Common.{◌≡◌, ℕ, ◌+◌, ◌≤◌, [], ◌∷◌, ◌++◌, length, refl, ap, ◌∙◌, arith}
use Rattle.std.proofs.Common.{length-append}
use Rattle.std.specs.Prelude.{Bool, true, false, map, Option, Some, None, option_map}
use Rattle.std.proofs.lemmas.List.{map-append}
use Rattle.definitions.specs.Events.{events_of}
use Rattle.definitions.specs.Events.{gap, subframe, news_events, report_events, count, when}
use Rattle.lane_correlator.specs.Counting.{counts_in}
use Rattle.lane_correlator.specs.declared.counts.Counts.{Counts}
use Rattle.tracking_loops.specs.NewsIn.{news_in}
use Rattle.tracking_loops.specs.declared.news.News.{News}
use Rattle.tracking_loops.specs.declared.news.News.TheVariants as locks
use Rattle.data_sets.specs.Reports.{reports_in}
use Rattle.data_sets.specs.declared.report.Report.{Report}
use Rattle.frame_sync.specs.declared.subframe.Subframe.{Subframe}
use Rattle.data_sets.specs.declared.almanac_set.AlmanacSet.{AlmanacSet}
use Rattle.nav_message.specs.News.{events_in}
use Rattle.nav_message.specs.declared.news.MessageNews.{MessageNews}
use Rattle.nav_message.specs.declared.news.MessageNews.TheVariants as messages
use Rattle.slot_protocol.specs.declared.event.Event.{Event}
use Rattle.slot_protocol.specs.declared.event.Event.TheVariants as events
use Rattle.channels.specs.declared.dump.Dump.{Dump}
use Rattle.channels.specs.Dumps.{steered_events_in}
use Rattle.channel_slots.specs.declared.slot_news.SlotNews.{SlotNews}
use Rattle.channel_slots.specs.declared.slot_news.SlotNews.TheVariants as slot_news
use Rattle.slot_protocol.specs.Events.{event_in}
use Rattle.channel_slots.specs.NewsEvents.{if_any, count_events, lock_events, message_events}
use Rattle.channel_slots.specs.NewsEvents.{dump_events, events_with}

counts-are : (is_shown : Bool) (c : Counts)
    → map event_in (count_events is_shown c) ≡ when is_shown (count (counts_in c))
counts-are true c = refl
counts-are false c = refl

locks-are : (news : News) → map event_in (lock_events news) ≡ news_events (news_in news)
locks-are locks.Nothing = refl
locks-are locks.Lock = refl
locks-are locks.Unlock = refl
locks-are locks.Lost = refl

frames-are : (gap_before : Option ℕ) (s : Subframe) (page : Option Report)
    (set : Option AlmanacSet)
    → map event_in (if_any (option_map events.Gap gap_before) ++ (events.Sub s
    ∷ (if_any (option_map events.Page page) ++ if_any (option_map events.Almanacs set))))
    ≡ events_of gap gap_before ++ subframe s ∷ []
    ++ report_events (reports_in (record { page = page; set = set }))
frames-are None s None None = refl
frames-are None s None (Some set) = refl
frames-are None s (Some page) None = refl
frames-are None s (Some page) (Some set) = refl
frames-are (Some n) s None None = refl
frames-are (Some n) s None (Some set) = refl
frames-are (Some n) s (Some page) None = refl
frames-are (Some n) s (Some page) (Some set) = refl

messages-are : (news : MessageNews) → map event_in (message_events news) ≡ events_in news
messages-are messages.Nothing = refl
messages-are messages.Edge = refl
messages-are (messages.Frame found reports) =
    frames-are found.gap found.subframe reports.page reports.set

-- all that comes with a dump
pub all-are : (d : Dump) (is_shown : Bool)
    → map event_in (dump_events is_shown d)
    ≡ when is_shown (count (counts_in d.counts)) ++ steered_events_in d
all-are d is_shown =
    map-append event_in (count_events is_shown d.counts)
    (lock_events d.lock ++ message_events d.message)
    ∙ rw (
      counts-are is_shown d.counts,
      map-append event_in (lock_events d.lock) (message_events d.message),
      locks-are d.lock,
      messages-are d.message,
    ) refl

-- ---- how many they are
pub few-any : (o : Option Event) → length (if_any o) ≤ 1
few-any None = omega arith
few-any (Some e) = omega arith

pub few-locks : (news : News) → length (lock_events news) ≤ 1
few-locks locks.Nothing = omega arith
few-locks locks.Lock = omega arith
few-locks locks.Unlock = omega arith
few-locks locks.Lost = omega arith

few-reports : (page set : Option Event) → length (if_any page ++ if_any set) ≤ 2
few-reports None None = omega arith
few-reports None (Some s) = omega arith
few-reports (Some p) None = omega arith
few-reports (Some p) (Some s) = omega arith

few-frames : (gap_before page set : Option Event) (s : Subframe)
    → length (if_any gap_before ++ (events.Sub s ∷ (if_any page ++ if_any set))) ≤ 4
few-frames None page set s = omega (arith, few-reports page set)
few-frames (Some n) page set s = omega (arith, few-reports page set)

few-messages : (news : MessageNews) → length (message_events news) ≤ 4
few-messages messages.Nothing = omega arith
few-messages messages.Edge = omega arith
few-messages (messages.Frame found reports) =
    few-frames (option_map events.Gap found.gap) (option_map events.Page reports.page)
    (option_map events.Almanacs reports.set) found.subframe

pub few-counts : (is_shown : Bool) (c : Counts) → length (count_events is_shown c) ≤ 1
few-counts true c = omega arith
few-counts false c = omega arith

-- six at most
pub few-events : (news : SlotNews) (d : Dump) → length (events_with news d) ≤ 6
few-events (slot_news.Acquired time prn cell) d = omega arith
few-events (slot_news.Dump time is_shown) d =
    let parts : length (dump_events is_shown d)
    ≡ length (count_events is_shown d.counts) + (length (lock_events d.lock)
    + length (message_events d.message)) =
    length-append (count_events is_shown d.counts) _
    ∙ ap (λ n. length (count_events is_shown d.counts) + n)
    (length-append (lock_events d.lock) _) in
    omega (
      arith,
      parts,
      few-counts is_shown d.counts,
      few-locks d.lock,
      few-messages d.message,
    )
