-- What holds of the lines of the whole text, whatever the settings, the samples and the clients
-- are. Each law is promised by a function of the same name in this crate. (This project's own.)
use Rattle.std.specs.Prelude.{ℕ, ◌≡◌, ◌+◌, ◌<◌, ◌≤◌, ◌⊎◌, List, length, take, slice_get}
use Rattle.std.specs.Prelude.{Option, Some, None, codes}
use Rattle.definitions.specs.Samples.{Sample}
use Rattle.definitions.specs.Oscillators.{Settings}
use Rattle.definitions.specs.Correlation.{Counts}
use Rattle.definitions.specs.Acquisition.{Cell}
use Rattle.definitions.specs.Frames.{Subframe}
use Rattle.definitions.specs.Pages.{Kind, clock, eph2, eph3, almanac, utc, health, message}
use Rattle.definitions.specs.DataSets.{Report, ephemeris, single, AlmanacSet}
use Rattle.definitions.specs.Commands.{TimedRequest}
use Rattle.definitions.specs.Lines.{lines_of, words_of}
use Rattle.definitions.specs.Scripts.{Entry}
use Rattle.definitions.specs.Events.{Event, acquired, count, subframe, reported, almanacs}
use Rattle.definitions.specs.Events.{events_at_end}
use Rattle.definitions.specs.Texts.{event_text, at_time, for_client}
use Rattle.definitions.specs.Receiver.{Client, entries_of, entries_before, commands_to}
use Rattle.definitions.specs.Receiver.{reply_text, end_line, full}
use Rattle.definitions.specs.EventLaws.{IsRight}

-- ---- where a line comes from

-- the commands to a client's slot before the last of the samples
abbrev pub commands_before : Client → ℕ → List Sample → List TimedRequest
commands_before client slot xs =
    commands_to slot (entries_before (length xs) (entries_of client))

-- an element of a list
abbrev pub IsAmong : {A : Type 0} → List A → A → Type 0
IsAmong xs x = (i : ℕ) × (slice_get xs i ≡ Some x)

-- The last of the samples makes a slot of client number 1 + k emit the event, and it is right.
pub record Emits (settings : Settings) (clients : List Client)
    (xs : List Sample) (k slot : ℕ) (client : Client) (event : Event) : Type 0 where
  pub is_client : slice_get clients k ≡ Some client
  pub is_slot : slot < client.slots
  pub is_emitted : IsAmong (events_at_end settings xs (commands_before client slot xs)) event
  pub is_right : IsRight settings xs (commands_before client slot xs) event

-- The line is that of an event, emitted at a time from 0 to the number of samples.
abbrev pub IsLineOf : Settings → List Client → List Sample → List ℕ → Event → Type 0
IsLineOf settings clients xs line event =
    (t : ℕ) × (k : ℕ) × (slot : ℕ) × (client : Client) × (t ≤ length xs)
    × Emits settings clients (take t xs) k slot client event
    × (line ≡ for_client (1 + k) (at_time t (event_text slot event)))

-- the text of the answer to an entry of a client's script, after the i entries before it
abbrev pub reply_to : Settings → Client → List Sample → ℕ → Entry → List ℕ
reply_to settings client xs i entry =
    reply_text settings (take entry.time xs) (take i (entries_of client)) entry.what

-- The line is the answer to an entry of a client's script, at the entry's time.
abbrev pub IsAnswerLine : Settings → List Client → List Sample → List ℕ → Type 0
IsAnswerLine settings clients xs line =
    (k : ℕ) × (i : ℕ) × (client : Client) × (entry : Entry)
    × (slice_get clients k ≡ Some client) × (slice_get (entries_of client) i ≡ Some entry)
    × (entry.time ≤ length xs)
    × (line ≡ for_client (1 + k) (at_time entry.time (reply_to settings client xs i entry)))

-- The line is a client's end.
abbrev pub IsEndLine : List Client → List Sample → List ℕ → Type 0
IsEndLine clients xs line =
    (k : ℕ) × (k < length clients) × (line ≡ for_client (1 + k) (end_line xs))

abbrev pub IsOneOf : Settings → List Client → List Sample → List ℕ → Type 0
IsOneOf settings clients xs line =
    ((event : Event) × IsLineOf settings clients xs line event)
    ⊎ (IsAnswerLine settings clients xs line ⊎ IsEndLine clients xs line)

-- Each line of the whole text is that of an event that a slot emits, or that of an answer, or an
-- end.
abbrev pub LinesComeFromEvents : Type 0
LinesComeFromEvents =
    (settings : Settings) (clients : List Client) (xs : List Sample) (i : ℕ)
    (line : List ℕ)
    → slice_get (lines_of (full settings xs clients)) i ≡ Some line
    → IsOneOf settings clients xs line

-- ---- lines by their verbs

-- the word of a line after its client and its time
abbrev pub verb_of : List ℕ → Option (List ℕ)
verb_of line = slice_get (words_of line) 2

-- a line of the whole text with such a verb
abbrev pub IsPrinted : Settings → List Client → List Sample → List ℕ → List ℕ → Type 0
IsPrinted settings clients xs line verb =
    IsAmong (lines_of (full settings xs clients)) line × (verb_of line ≡ Some verb)

-- Each count that is printed is that of a dump, the plain sums over just its samples.
abbrev pub PrintedCountsAreSums : Type 0
PrintedCountsAreSums =
    (settings : Settings) (clients : List Client) (xs : List Sample)
    (line : List ℕ)
    → IsPrinted settings clients xs line (codes "count")
    → (c : Counts) × IsLineOf settings clients xs line (count c)

-- Each acquisition that is printed names the first greatest cell of its plan.
abbrev pub PrintedAcquisitionsNameTheGreatest : Type 0
PrintedAcquisitionsNameTheGreatest =
    (settings : Settings) (clients : List Client) (xs : List Sample)
    (line : List ℕ)
    → IsPrinted settings clients xs line (codes "acq")
    → (prn : ℕ) × (cell : Cell) × IsLineOf settings clients xs line (acquired prn cell)

-- Each data word that is shown passes.
abbrev pub PrintedWordsPass : Type 0
PrintedWordsPass = (settings : Settings) (clients : List Client)
    (xs : List Sample) (line : List ℕ)
    → IsPrinted settings clients xs line (codes "sub")
    → (s : Subframe) × IsLineOf settings clients xs line (subframe s)

-- the verb of a report's line: a clock or ephemeris page has no line of its own
abbrev pub page_verb : Kind → Option (List ℕ)
page_verb clock = None
page_verb eph2 = None
page_verb eph3 = None
page_verb almanac = Some (codes "alm")
page_verb utc = Some (codes "utc")
page_verb health = Some (codes "hlt")
page_verb message = Some (codes "msg")

abbrev pub report_verb : Report → Option (List ℕ)
report_verb (ephemeris values) = Some (codes "eph")
report_verb (single page) = page_verb page.kind

-- Each page and each set that is printed is a right report, of the kind that the verb names.
abbrev pub IsPageVerb : List ℕ → Type 0
IsPageVerb verb = (verb ≡ codes "eph")
    ⊎ ((verb ≡ codes "alm")
    ⊎ ((verb ≡ codes "utc") ⊎ ((verb ≡ codes "hlt") ⊎ (verb ≡ codes "msg"))))

abbrev pub PrintedPagesPass : Type 0
PrintedPagesPass = (settings : Settings) (clients : List Client)
    (xs : List Sample) (line verb : List ℕ) → IsPageVerb verb
    → IsPrinted settings clients xs line verb
    → (r : Report) × (report_verb r ≡ Some verb)
    × IsLineOf settings clients xs line (reported r)

abbrev pub PrintedAlmanacsAgree : Type 0
PrintedAlmanacsAgree =
    (settings : Settings) (clients : List Client) (xs : List Sample)
    (line : List ℕ)
    → IsPrinted settings clients xs line (codes "als")
    → (set : AlmanacSet) × IsLineOf settings clients xs line (almanacs set)

-- Each line has at most 1,024 bytes.
abbrev pub LinesAreShort : Type 0
LinesAreShort = (settings : Settings) (clients : List Client)
    (xs : List Sample) (i : ℕ) (line : List ℕ)
    → slice_get (lines_of (full settings xs clients)) i ≡ Some line → length line ≤ 1024
