-- What holds of the events of a slot. Each of these is promised by a function of the same name in
-- this crate. (This project's own.)
use Rattle.std.specs.Prelude.{ℕ, zero, suc, ◌≡◌, ◌+◌, ◌-◌, ◌*◌, ◌/◌, ◌%◌, ◌==◌, ◌&&◌, ℤ, ◌<◌, ◌≤◌}
use Rattle.std.specs.Prelude.{Bool, true, false, List, length, slice_get, take, Some, None}
use Rattle.std.specs.Option.{option_map_or}
use Rattle.definitions.specs.Samples.{Sample}
use Rattle.definitions.specs.Oscillators.{Settings, code_cycle, code_phase_after}
use Rattle.definitions.specs.Oscillators.{carrier_phase_after}
use Rattle.definitions.specs.Correlation.{Counts, Phases, phases_after, counts_over}
use Rattle.definitions.specs.Segments.{Channel, Dump, Segment, counts_of, dumps_of, phases_of}
use Rattle.definitions.specs.Segments.{next_segment}
use Rattle.definitions.specs.Acquisition.{Plan, cells_done}
use Rattle.definitions.specs.BitEdge.{is_change, changes_at, is_edge}
use Rattle.definitions.specs.Parity.{passes}
use Rattle.definitions.specs.Frames.{subframe_at, word_at, prior_at}
use Rattle.definitions.specs.Pages.{Page, page_of}
use Rattle.definitions.specs.Commands.{TimedRequest, begin, stop}
use Rattle.definitions.specs.Lives.{Life, is_over, still_on, life_of, life_now}
use Rattle.definitions.specs.Events.{Event, acquired, count, locked, unlocked, signal_lost, edge}
use Rattle.definitions.specs.Events.{gap, subframe, reported, almanacs, events_at_end, pages_among}
use Rattle.definitions.specs.Events.{pushes_of}
use Rattle.std.specs.Prelude.{filter, not, map, drop, [], Option, if◌then◌else◌}
use Rattle.definitions.specs.Lock.{News, nothing, lock, unlock, lost, news_of, is_locked}

-- ---- the dumps of a channel

-- when the first k dumps are over: the first segment begins with the channel, each other one where
-- the one before it ends
abbrev pub time_after_dumps : Channel → List Dump → ℕ → ℕ
time_after_dumps channel dumps zero = channel.start
time_after_dumps channel dumps (suc k) = option_map_or (λ (d : Dump). d.time) (slice_get dumps k) 0

-- the segment that begins there, with the phases that the one before it left
unfoldable pub segment_after_dumps : Settings → Channel → List Dump → ℕ → Segment
segment_after_dumps settings channel dumps zero =
    record { start = channel.start; code = channel.code; carrier = 0 }
segment_after_dumps settings channel dumps (suc k) =
    let s = segment_after_dumps settings channel dumps k in
    next_segment s (phases_of settings (channel.steering (counts_of (take k dumps))) s)
    (time_after_dumps channel dumps (suc k))

-- its phases, at the shift that the first k dumps ask for
abbrev pub phases_after_dumps : Settings → Channel → List Dump → ℕ → Phases
phases_after_dumps settings channel dumps k =
    phases_of settings (channel.steering (counts_of (take k dumps)))
    (segment_after_dumps settings channel dumps k)

-- the code's phase n samples on, not taken back by a cycle
abbrev pub code_by : Phases → ℕ → ℕ
code_by p n = (phases_after p n).code

-- A dump of a segment with such phases at its start: it ends at the least time by which the code
-- has run through, within the samples, and is the six plain sums over just the samples between.
pub record IsDump (channel : Channel) (xs : List Sample) (start : ℕ) (p : Phases) (d : Dump)
    : Type 0 where
  pub later : start < d.time
  pub within : d.time ≤ length xs
  pub through : code_cycle ≤ code_by p (d.time - start)
  pub not_sooner : (e : ℕ) → start < e → e < d.time → code_by p (e - start) < code_cycle
  pub sums : d.counts ≡ counts_over channel.prn p xs start d.time

-- Where a segment ends, the next one begins. Both phases go on: j samples later they are what they
-- would be without the end. The code has run through once.
pub record GoesOn (s : Segment) (p : Phases) (e : ℕ) (next : Segment) : Type 0 where
  pub begins : next.start ≡ e
  pub code_goes_on : (j : ℕ)
      → code_phase_after next.code p.code_step j
      ≡ code_phase_after s.code p.code_step (e - s.start + j)
  pub carrier_goes_on : (j : ℕ)
      → carrier_phase_after next.carrier p.carrier_step j
      ≡ carrier_phase_after s.carrier p.carrier_step (e - s.start + j)
  pub once : next.code + code_cycle ≡ code_by p (e - s.start)

-- So it is with the phases of each segment, by the end of which its code has run through.
abbrev pub SegmentsGoOn : Type 0
SegmentsGoOn = (s : Segment) (p : Phases) (e : ℕ) → p.code ≡ s.code → p.carrier ≡ s.carrier
    → s.start < e → code_cycle ≤ code_by p (e - s.start) → GoesOn s p e (next_segment s p e)

-- Each is the dump of the segment after those before it, and after the last of them no segment ends
-- within the samples.
pub record AreDumps (settings : Settings) (channel : Channel) (xs : List Sample) (dumps : List Dump)
    : Type 0 where
  pub each : (k : ℕ) (d : Dump) → slice_get dumps k ≡ Some d
      → IsDump channel xs (time_after_dumps channel dumps k)
      (phases_after_dumps settings channel dumps k) d
  pub no_more : (e : ℕ) → time_after_dumps channel dumps (length dumps) < e → e ≤ length xs
      → code_by (phases_after_dumps settings channel dumps (length dumps))
      (e - time_after_dumps channel dumps (length dumps)) < code_cycle

-- The dumps of a channel are the plain sums over one run of the code after another.
abbrev pub DumpsArePlainSums : Type 0
DumpsArePlainSums = (settings : Settings) (channel : Channel) (xs : List Sample)
    → AreDumps settings channel xs (dumps_of settings channel xs)

-- No other list has dumps like these.
abbrev pub NoOtherDumps : Type 0
NoOtherDumps = (settings : Settings) (channel : Channel) (xs : List Sample) (dumps : List Dump)
    → AreDumps settings channel xs dumps → dumps ≡ dumps_of settings channel xs

-- ---- acquisitions and pages

-- With m more samples at most m / 4 + 1 more cells are done.
abbrev pub CellsComeWithSamples : Type 0
CellsComeWithSamples = (settings : Settings) (plan : Plan) (start t m : ℕ)
    → cells_done settings plan start (t + m) ≤ cells_done settings plan start t + (m / 4 + 1)

-- The page of the ten words from place n on, which all pass with the two bits before them.
pub record IsPageAt (bits : List Bool) (n : ℕ) (page : Page) : Type 0 where
  pub two_before : 2 ≤ n
  pub is_read : page_of (subframe_at bits n) ≡ Some page
  pub pass : (i : ℕ) → i < 10
      → passes (word_at bits (n + 30 * i)) (prior_at bits (n + 30 * i)) ≡ true

-- A page that some 300 of the bits hold, and the page of the last 300.
abbrev pub IsPage : List Bool → Page → Type 0
IsPage bits page = (n : ℕ) × (n + 300 ≤ length bits) × IsPageAt bits n page

abbrev pub IsLastPage : List Bool → Page → Type 0
IsLastPage bits page = (n : ℕ) × (n + 300 ≡ length bits) × IsPageAt bits n page

-- Each of the pages comes from ten words that all pass with the two bits before them.
abbrev pub PagesPass : Type 0
PagesPass = (bits : List Bool) (k : ℕ) (page : Page) → slice_get (pages_among bits) k ≡ Some page
    → IsPage bits page

-- ---- bits

-- Where the sign of the pushes changes at one place modulo 20 alone, the edge is at the sixteenth
-- change.
abbrev pub EdgeIsSixteenthChange : Type 0
EdgeIsSixteenthChange =
    (pushes : List ℤ) (place k : ℕ) → ((i : ℕ) → i ≤ k → is_change pushes i ≡ true → i % 20 ≡ place)
    → is_edge pushes k ≡ (is_change pushes k && (changes_at pushes (k % 20) 0 k == 16))

-- how many dumps there were, of the first k, when the loops last answered with a lock
abbrev pub is_lock : News → Bool
is_lock news = elim news [ lock ↦ true | nothing ↦ false | unlock ↦ false | lost ↦ false ]

unfoldable pub last_lock : List Counts → ℕ → Option ℕ
last_lock dumps zero = None
last_lock dumps (suc k) =
    if is_lock (news_of (take (suc k) dumps)) then Some (suc k) else last_lock dumps k

abbrev pub prompt_sums : List Counts → List ℤ
prompt_sums dumps = map (λ (d : Counts). d.ip) dumps

abbrev pub sums_after : List Counts → Option ℕ → List ℤ
sums_after dumps None = []
sums_after dumps (Some k) = prompt_sums (drop k dumps)

-- While the loops are locked, the prompt sums of the dumps after the one with which they last
-- answered with a lock are pushed, and otherwise none.
abbrev pub PushesAreAfterLock : Type 0
PushesAreAfterLock = (dumps : List Counts)
    → pushes_of dumps
    ≡ (if is_locked dumps then sums_after dumps (last_lock dumps (length dumps)) else [])

-- ---- lives

-- Command number i begins this life: it is a start, and the slot was idle for it.
pub record Begins (settings : Settings) (xs : List Sample) (commands : List TimedRequest) (i : ℕ)
    (life : Life) : Type 0 where
  pub command : slice_get commands i
      ≡ Some (record { time = life.begun; request = begin life.start })
  pub was_idle : still_on settings (take life.begun xs) (life_of settings xs (take i commands))
      ≡ None

-- The life that is on was begun by a command for which the slot was idle, no `stop` came after that
-- command, and the samples have not ended it.
abbrev pub LifeIsOn : Type 0
LifeIsOn = (settings : Settings) (xs : List Sample) (commands : List TimedRequest) (life : Life)
    → life_now settings xs commands ≡ Some life
    → (i : ℕ) × Begins settings xs commands i life
    × ((j : ℕ) (command : TimedRequest) → i < j → slice_get commands j ≡ Some command
    → command.request ≡ stop → ⊥)
    × (is_over settings xs life ≡ false)

-- ---- events

-- A slot emits at most four events with one sample, and a set of almanacs beside them at most.
abbrev pub is_set : Event → Bool
is_set event = elim event [
  | almanacs set ↦ true
  | acquired prn cell ↦ false
  | count c ↦ false
  | locked ↦ false
  | unlocked ↦ false
  | signal_lost ↦ false
  | edge ↦ false
  | gap n ↦ false
  | subframe s ↦ false
  | reported r ↦ false
]

abbrev pub SlotEmitsFew : Type 0
SlotEmitsFew = (settings : Settings) (xs : List Sample) (commands : List TimedRequest)
    → (length (filter (λ e. not (is_set e)) (events_at_end settings xs commands)) ≤ 4)
    × (length (filter is_set (events_at_end settings xs commands)) ≤ 1)
