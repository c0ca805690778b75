-- What can be read from a printed line: its client, its time, its slot and its event. So what the
-- laws say of an event with such a line, they say of the line. (This project's own.)
use Rattle.std.specs.Prelude.{⊤, ℕ, ◌≡◌, ◌^◌, ◌<◌, ℤ, pos, unsigned_abs, List, ◌++◌, length, Option}
use Rattle.std.specs.Prelude.{unwrap_or}
use Rattle.std.specs.List.{AllByRecursion}
use Rattle.definitions.specs.Sums.{natural}
use Rattle.definitions.specs.Correlation.{Counts}
use Rattle.definitions.specs.Fields.{Field, clock_fields, eph2_fields, eph3_fields}
use Rattle.definitions.specs.Fields.{almanac_fields, utc_fields, health_fields, message_fields}
use Rattle.definitions.specs.Pages.{Kind, clock, eph2, eph3, almanac, utc, health, message}
use Rattle.definitions.specs.DataSets.{Report, ephemeris, single}
use Rattle.definitions.specs.Events.{Event, acquired, count, locked, unlocked, signal_lost, edge}
use Rattle.definitions.specs.Events.{gap, subframe, reported, almanacs}
use Rattle.definitions.specs.Texts.{event_text, at_time, for_client}

-- ---- what can be read: numbers of at most 64 bits, since `decimal` has 64 digits at most

abbrev pub IsShort : ℕ → Type 0
IsShort n = n < 2 ^ 64

abbrev pub IsShortSigned : ℤ → Type 0
IsShortSigned z = unsigned_abs z < 2 ^ 63

abbrev pub AreShortSums : Counts → Type 0
AreShortSums c = IsShortSigned c.ie × IsShortSigned c.qe × IsShortSigned c.ip × IsShortSigned c.qp
    × IsShortSigned c.il × IsShortSigned c.ql

-- the 24 bits of a word, where it is there
abbrev pub IsDataOfWord : Option ℕ → Type 0
IsDataOfWord word = unwrap_or word 0 < 2 ^ 24

-- a value for each of the fields
abbrev pub AreValues : List Field → List ℤ → Type 0
AreValues fields values = (length values ≡ length fields) × AllByRecursion IsShortSigned values

-- the eight bits of a character
abbrev pub IsCharacter : ℤ → Type 0
IsCharacter z = (z ≡ pos (natural z)) × (natural z < 2 ^ 8)

-- the values of a page that has a line of its own
abbrev pub ArePageValues : Kind → List ℤ → Type 0
ArePageValues clock values = ⊥
ArePageValues eph2 values = ⊥
ArePageValues eph3 values = ⊥
ArePageValues almanac values = AreValues almanac_fields values
ArePageValues utc values = AreValues utc_fields values
ArePageValues health values = AreValues health_fields values
ArePageValues message values =
    (length values ≡ length message_fields) × AllByRecursion IsCharacter values

abbrev pub AreReportValues : Report → Type 0
AreReportValues (ephemeris values) = AreValues (clock_fields ++ eph2_fields ++ eph3_fields) values
AreReportValues (single page) = ArePageValues page.kind page.values

-- an event that can be read from its line
abbrev pub IsReadable : Event → Type 0
IsReadable (acquired prn cell) = IsShort prn × IsShortSigned cell.bin × IsShort cell.half_chip
    × IsShort cell.power
IsReadable (count c) = AreShortSums c
IsReadable locked = ⊤
IsReadable unlocked = ⊤
IsReadable signal_lost = ⊤
IsReadable edge = ⊤
IsReadable (gap n) = IsShort n
IsReadable (subframe s) = AllByRecursion IsDataOfWord s.words
IsReadable (reported r) = AreReportValues r
IsReadable (almanacs set) = IsShortSigned set.toa × AllByRecursion IsShortSigned set.health

-- what a line is of
pub record Origin : Type 0 where
  pub client : ℕ
  pub time : ℕ
  pub slot : ℕ
  pub event : Event

abbrev pub line_of : Origin → List ℕ
line_of origin =
    for_client origin.client (at_time origin.time (event_text origin.slot origin.event))

pub record CanBeRead (origin : Origin) : Type 0 where
  pub client : IsShort origin.client
  pub time : IsShort origin.time
  pub slot : IsShort origin.slot
  pub event : IsReadable origin.event

-- No two clients, times, slots or events have one line.
abbrev pub LinesAreDistinct : Type 0
LinesAreDistinct =
    (a b : Origin) → CanBeRead a → CanBeRead b → line_of a ≡ line_of b → a ≡ b
