-- What a slot has to emit with a bit: no subframe, no page and no set is missing, and none comes
-- twice. Each law is promised by a function of the same name in this crate. (IS-GPS-200 has the
-- pages, section 20.3.3; when they are reported is this project's own.)
use Rattle.std.specs.Prelude.{ℕ, zero, suc, ◌≡◌, ◌+◌, ◌-◌, ◌==◌, ◌<◌, Bool, true, false, ℤ, List}
use Rattle.std.specs.Prelude.{[]}
use Rattle.std.specs.Prelude.{◌∷◌, ◌++◌, length, filter, slice_get, take, Option, Some, None}
use Rattle.std.specs.Prelude.{if◌then◌else◌, ◌&&◌, ◌||◌, not, is_some}
use Rattle.std.specs.Option.{option_map_or}
use Rattle.definitions.specs.Samples.{Sample}
use Rattle.definitions.specs.Oscillators.{Settings}
use Rattle.definitions.specs.Segments.{Dump}
use Rattle.definitions.specs.Lock.{News, nothing, lock, unlock, lost, news_of}
use Rattle.definitions.specs.BitEdge.{has_edge, bits_of}
use Rattle.definitions.specs.Frames.{starts_of, subframe_at}
use Rattle.definitions.specs.Pages.{Kind, Page, page_of, clock, eph2, eph3, almanac, utc, health}
use Rattle.definitions.specs.Pages.{message}
use Rattle.definitions.specs.DataSets.{ephemeris, single, ephemeris_of, almanacs_of, almanac_set}
use Rattle.definitions.specs.Commands.{TimedRequest}
use Rattle.definitions.specs.Lives.{Life, is_steered, dumps_of_life, life_now}
use Rattle.definitions.specs.Events.{Event, acquired, count, locked, unlocked, signal_lost, edge}
use Rattle.definitions.specs.Events.{gap, subframe, reported, almanacs, events_at_end, front_of}
use Rattle.definitions.specs.Events.{last_of, pages_among}
use Rattle.definitions.specs.EventLaws.{counts_by, pushes_so_far, bits_so_far}
use Rattle.definitions.specs.SlotLaws.{is_set}

-- ---- a bit, and the subframe that it makes whole

-- The last sample ends a dump of the life that is on, and that dump makes a bit whole.
pub record BringsBit (settings : Settings) (xs : List Sample) (commands : List TimedRequest)
    (life : Life) : Type 0 where
  pub is_on : life_now settings (front_of xs) commands ≡ Some life
  pub is_steered : is_steered life.start ≡ true
  pub ends_now : (d : Dump) × (last_of (dumps_of_life settings xs life) ≡ Some d)
      × (d.time ≡ length xs)
  pub is_new : length (bits_of (front_of (pushes_so_far settings xs life)))
      < length (bits_so_far settings xs life)

-- That bit is the last of the 300 of start number k, which is at bit n.
pub record BringsSubframe (settings : Settings) (xs : List Sample) (commands : List TimedRequest)
    (life : Life) (k n : ℕ) : Type 0 where
  pub brings : BringsBit settings xs commands life
  pub starts : slice_get (starts_of (bits_so_far settings xs life)) k ≡ Some n
  pub is_last : n + 300 ≡ length (bits_so_far settings xs life)

-- ---- kinds of events

abbrev pub is_framing : Event → Bool
is_framing event = elim event [
  | gap n ↦ true
  | subframe s ↦ true
  | acquired prn cell ↦ false
  | count c ↦ false
  | locked ↦ false
  | unlocked ↦ false
  | signal_lost ↦ false
  | edge ↦ false
  | reported r ↦ false
  | almanacs set ↦ false
]

abbrev pub is_report : Event → Bool
is_report event = elim event [
  | reported r ↦ true
  | acquired prn cell ↦ false
  | count c ↦ false
  | locked ↦ false
  | unlocked ↦ false
  | signal_lost ↦ false
  | edge ↦ false
  | gap n ↦ false
  | subframe s ↦ false
  | almanacs set ↦ false
]

-- ---- laws

-- the gap before start number k: from the 300 bits of the start before it
abbrev pub gap_between : Option ℕ → ℕ → List Event
gap_between None n = []
gap_between (Some before) n =
    if before + 300 == n then [] else gap (n - (before + 300)) ∷ []

abbrev pub gap_before : List ℕ → ℕ → ℕ → List Event
gap_before starts zero n = []
gap_before starts (suc k) n = gap_between (slice_get starts k) n

-- A subframe is emitted once with its last bit, whether its words pass or not. Before it stands the
-- gap from the subframe before, if there was one since lock and some bits lie between them.
abbrev pub SubframesAreEmitted : Type 0
SubframesAreEmitted = (settings : Settings) (xs : List Sample) (commands : List TimedRequest)
    (life : Life) (k n : ℕ) → BringsSubframe settings xs commands life k n
    → filter is_framing (events_at_end settings xs commands)
    ≡ gap_before (starts_of (bits_so_far settings xs life)) k n
    ++ subframe (subframe_at (bits_so_far settings xs life) n) ∷ []

-- No subframe, gap, page or set is emitted but with such a bit.
abbrev pub ReportsComeWithSubframes : Type 0
ReportsComeWithSubframes =
    (settings : Settings) (xs : List Sample) (commands : List TimedRequest) (i : ℕ) (event : Event)
    → slice_get (events_at_end settings xs commands) i ≡ Some event
    → (is_framing event || is_report event || is_set event) ≡ true
    → (life : Life) × (k : ℕ) × (n : ℕ) × BringsSubframe settings xs commands life k n

-- the kinds of pages that have a line of their own
abbrev pub has_line : Kind → Bool
has_line almanac = true
has_line utc = true
has_line health = true
has_line message = true
has_line clock = false
has_line eph2 = false
has_line eph3 = false

-- A subframe that is an almanac, a UTC page, a health page or a message is reported each time.
abbrev pub PagesAreReported : Type 0
PagesAreReported = (settings : Settings) (xs : List Sample) (commands : List TimedRequest)
    (life : Life) (k n : ℕ) (page : Page) → BringsSubframe settings xs commands life k n
    → page_of (subframe_at (bits_so_far settings xs life) n) ≡ Some page
    → has_line page.kind ≡ true
    → filter is_report (events_at_end settings xs commands) ≡ reported (single page) ∷ []

-- ---- sets

-- the set that was there last with one of the first k pages that pass the test
unfoldable pub last_there : (Page → Bool) → (List Page → Option (List ℤ)) → List Page → ℕ
    → Option (List ℤ)
last_there test set_of pages zero = None
last_there test set_of pages (suc k) =
    if option_map_or test (slice_get pages k) false && is_some (set_of (take (k + 1) pages))
    then set_of (take (k + 1) pages) else last_there test set_of pages k

-- What is emitted is one event, where a set is there and isn't the one that was there before.
pub record IsEmittedAnew (make : List ℤ → Event) (before now : Option (List ℤ))
    (emitted : List Event) : Type 0 where
  pub none : now ≡ None → emitted ≡ []
  pub same : now ≡ before → emitted ≡ []
  pub anew : (values : List ℤ) → now ≡ Some values → (now ≡ before → ⊥) → emitted ≡ make values ∷ []

abbrev pub is_almanac : Kind → Bool
is_almanac almanac = true
is_almanac utc = false
is_almanac health = false
is_almanac message = false
is_almanac clock = false
is_almanac eph2 = false
is_almanac eph3 = false

-- A clock or ephemeris page has a set emitted where one is there, and isn't the one that was there
-- with such a page before.
abbrev pub EphemeridesAreReported : Type 0
EphemeridesAreReported = (settings : Settings) (xs : List Sample) (commands : List TimedRequest)
    (life : Life) (k n : ℕ) (page : Page) → BringsSubframe settings xs commands life k n
    → page_of (subframe_at (bits_so_far settings xs life) n) ≡ Some page
    → has_line page.kind ≡ false
    → IsEmittedAnew (λ values. reported (ephemeris values))
    (last_there (λ (p : Page). not (has_line p.kind)) ephemeris_of
    (pages_among (bits_so_far settings xs life))
    (length (pages_among (bits_so_far settings xs life)) - 1))
    (ephemeris_of (pages_among (bits_so_far settings xs life)))
    (filter is_report (events_at_end settings xs commands))

-- So has an almanac the set of all almanacs.
abbrev pub AlmanacSetsAreReported : Type 0
AlmanacSetsAreReported = (settings : Settings) (xs : List Sample) (commands : List TimedRequest)
    (life : Life) (k n : ℕ) (page : Page) → BringsSubframe settings xs commands life k n
    → page_of (subframe_at (bits_so_far settings xs life) n) ≡ Some page
    → is_almanac page.kind ≡ true
    → IsEmittedAnew (λ values. almanacs (almanac_set values))
    (last_there (λ (p : Page). is_almanac p.kind) almanacs_of
    (pages_among (bits_so_far settings xs life))
    (length (pages_among (bits_so_far settings xs life)) - 1))
    (almanacs_of (pages_among (bits_so_far settings xs life)))
    (filter is_set (events_at_end settings xs commands))

-- ---- lock and edge

abbrev pub is_news : Event → Bool
is_news event = elim event [
  | locked ↦ true
  | unlocked ↦ true
  | signal_lost ↦ true
  | edge ↦ true
  | acquired prn cell ↦ false
  | count c ↦ false
  | gap n ↦ false
  | subframe s ↦ false
  | reported r ↦ false
  | almanacs set ↦ false
]

-- what is emitted with what the loops answer
abbrev pub event_of_news : News → List Event
event_of_news nothing = []
event_of_news lock = locked ∷ []
event_of_news unlock = unlocked ∷ []
event_of_news lost = signal_lost ∷ []

-- Where the last sample ends a dump of a life whose loops steer it, what they answer is emitted
-- once. After it stands the edge of the bits, once, where the dump's push brings it.
abbrev pub NewsIsEmitted : Type 0
NewsIsEmitted = (settings : Settings) (xs : List Sample) (commands : List TimedRequest)
    (life : Life) (d : Dump) → life_now settings (front_of xs) commands ≡ Some life
    → is_steered life.start ≡ true → last_of (dumps_of_life settings xs life) ≡ Some d
    → d.time ≡ length xs
    → filter is_news (events_at_end settings xs commands)
    ≡ event_of_news (news_of (counts_by settings xs life))
    ++ (if has_edge (pushes_so_far settings xs life)
    && not (has_edge (front_of (pushes_so_far settings xs life))) then edge ∷ [] else [])
