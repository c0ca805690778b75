-- What holds of the events that a slot emits, by what the definitions make of the samples and
-- commands so far. Each law is promised by a function of the same name in this crate. (This
-- project's own.)
use Rattle.std.specs.Prelude.{ℕ, ◌≡◌, ◌+◌, ◌-◌, ◌*◌, ◌<◌, ◌≤◌, ◌↔◌, Bool, true, false}
use Rattle.std.specs.Prelude.{ℤ, List, [], ◌++◌, map, sum, length, slice_get, Some}
use Rattle.std.specs.Prelude.{option_and_then}
use Rattle.std.specs.List.{range_with_len}
use Rattle.definitions.specs.Samples.{Sample}
use Rattle.definitions.specs.Oscillators.{Settings, code_phase_after}
use Rattle.definitions.specs.Correlation.{Counts}
use Rattle.definitions.specs.Segments.{Channel, Dump, counts_of, dumps_of}
use Rattle.definitions.specs.Lock.{lock, unlock, lost, news_of}
use Rattle.definitions.specs.Acquisition.{Plan, Cell, cell_count, bin_of, half_chip_of, power_of}
use Rattle.definitions.specs.Acquisition.{cell_shift, cell_phases, result_of, due_time}
use Rattle.definitions.specs.BitEdge.{has_edge, bits_of}
use Rattle.definitions.specs.Frames.{Subframe, Found, found_by, subframe_at}
use Rattle.definitions.specs.Pages.{Kind, Page, clock, eph2, eph3, almanac}
use Rattle.definitions.specs.DataSets.{Report, ephemeris, single, AlmanacSet, last_page, is_of}
use Rattle.definitions.specs.DataSets.{is_ephemeris}
use Rattle.definitions.specs.DataSets.{belong_together, last_almanac, toa_of, health_of, reports_of}
use Rattle.definitions.specs.Commands.{TimedRequest, acquire}
use Rattle.definitions.specs.Lives.{Life, acquired_channel, channel_of, dumps_of_life, life_now}
use Rattle.definitions.specs.Events.{Event, acquired, count, locked, unlocked, signal_lost, edge}
use Rattle.definitions.specs.Events.{gap, subframe, reported, almanacs, events_at_end, front_of}
use Rattle.definitions.specs.Events.{pages_among, pushes_of, unprinted_count}
use Rattle.definitions.specs.Laws.{IsFirstGreatest, IsChecked}
use Rattle.definitions.specs.SlotLaws.{IsPage, IsLastPage, IsDump, time_after_dumps}
use Rattle.definitions.specs.SlotLaws.{phases_after_dumps}

-- ---- what an event says of a life

-- the dumps of the life so far, the prompt sums that they push, and the bits of these
abbrev pub counts_by : Settings → List Sample → Life → List Counts
counts_by settings xs life = counts_of (dumps_of_life settings xs life)

abbrev pub pushes_so_far : Settings → List Sample → Life → List ℤ
pushes_so_far settings xs life = pushes_of (counts_by settings xs life)

abbrev pub bits_so_far : Settings → List Sample → Life → List Bool
bits_so_far settings xs life = bits_of (pushes_so_far settings xs life)

-- these sums, of a dump that the last sample ends
abbrev pub dump_now : List Sample → Counts → Dump
dump_now xs c = record { time = length xs; counts = c }

-- Dump number k of the channel that the life follows, ended by the last sample: the six plain sums
-- over one run of the code. And not all that were asked for had come before.
pub record IsCount (settings : Settings) (xs : List Sample) (life : Life) (channel : Channel)
    (k : ℕ) (c : Counts) : Type 0 where
  pub is_wanted : 0 < unprinted_count life (front_of (dumps_of_life settings xs life))
  pub is_followed : channel_of settings xs life.begun life.start ≡ Some channel
  pub is_dump : slice_get (dumps_of settings channel xs) k ≡ Some (dump_now xs c)
  pub is_sum : IsDump channel xs (time_after_dumps channel (dumps_of settings channel xs) k)
      (phases_after_dumps settings channel (dumps_of settings channel xs) k) (dump_now xs c)

-- the powers of all cells, added up
abbrev pub total_power : Settings → List Sample → Plan → ℕ → ℕ
total_power settings xs plan start =
    sum (map (power_of settings plan xs start) (range_with_len 0 (cell_count plan)))

-- The first greatest of the plan's cells over the dwell after a start, found exactly where it has
-- the threshold or more.
pub record IsNamed (settings : Settings) (xs : List Sample) (plan : Plan) (start named : ℕ)
    (cell : Cell) : Type 0 where
  pub is_greatest : IsFirstGreatest (power_of settings plan xs start) (cell_count plan) named
  pub bin : cell.bin ≡ bin_of plan named
  pub half_chip : cell.half_chip ≡ half_chip_of named
  pub power : cell.power ≡ power_of settings plan xs start named
  pub found : (cell.found ≡ true)
      ↔ (plan.threshold * total_power settings xs plan start ≤ 10 * cell.power * cell_count plan)

-- The life is an acquisition of the satellite, due with the last sample, and the cell is the one
-- that it names.
abbrev pub IsAcquisition : Settings → List Sample → Life → ℕ → Cell → Type 0
IsAcquisition settings xs life prn cell =
    (plan : Plan) × (life.start ≡ acquire plan) × (plan.prn ≡ prn)
    × (due_time settings plan life.begun ≡ length xs) × (named : ℕ)
    × IsNamed settings xs plan life.begun named cell

-- The subframe of the last 300 bits, of which each word that is shown passes with the two bits
-- before it, and is shown as its data.
abbrev pub IsSubframe : List Bool → Subframe → Type 0
IsSubframe bits s = (n : ℕ) × (2 ≤ n) × (n + 300 ≡ length bits) × (s ≡ subframe_at bits n)
    × ((i shown : ℕ) → i < 10 → slice_get s.words i ≡ Some (Some shown) → IsChecked bits n i shown)

-- The gap before the subframe that the last bit makes whole.
abbrev pub IsGap : List Bool → ℕ → Type 0
IsGap bits n = option_and_then (λ (f : Found). f.gap) (found_by bits) ≡ Some n

-- The last page of a kind, of ten words that pass.
pub record IsLatest (bits : List Bool) (kind : Kind) (page : Page) : Type 0 where
  pub is_last : last_page (is_of kind) (pages_among bits) ≡ Some page
  pub is_page : IsPage bits page

-- The values of the last clock page and of the last two ephemeris pages, which are of one issue of
-- data.
abbrev pub IsEphemeris : List Bool → List ℤ → Type 0
IsEphemeris bits values =
    (c : Page) × (e2 : Page) × (e3 : Page) × IsLatest bits clock c × IsLatest bits eph2 e2
    × IsLatest bits eph3 e3 × (belong_together c e2 e3 ≡ true)
    × (values ≡ c.values ++ e2.values ++ e3.values)

-- The last 300 bits hold a page that passes a test.
abbrev pub IsWithPage : List Bool → (Page → Bool) → Type 0
IsWithPage bits test = (page : Page) × (test page ≡ true) × IsLastPage bits page

-- A set comes with a page of its kinds, and any other report is that page.
abbrev pub IsReport : List Bool → Report → Type 0
IsReport bits (ephemeris values) = IsEphemeris bits values × IsWithPage bits is_ephemeris
IsReport bits (single page) = IsLastPage bits page

-- The last almanac of each of the satellites 1 to 32, of ten words that pass, all of one time of
-- applicability, and their health in this order.
pub record IsAlmanacSet (bits : List Bool) (set : AlmanacSet) : Type 0 where
  pub health_of_all : length set.health ≡ 32
  pub each : (sv : ℕ) → 1 ≤ sv → sv ≤ 32
      → (page : Page) × (last_almanac (pages_among bits) sv ≡ Some page) × IsPage bits page
      × (toa_of page ≡ set.toa) × (slice_get set.health (sv - 1) ≡ Some (health_of page))

-- The pushes have an edge, and without the last of them had none.
abbrev pub IsNewEdge : List ℤ → Type 0
IsNewEdge pushes = (has_edge pushes ≡ true) × (has_edge (front_of pushes) ≡ false)

-- what an event says of the life that is on, the last sample being the last of these
abbrev pub IsOfLife : Settings → List Sample → Life → Event → Type 0
IsOfLife settings xs life (acquired prn cell) = IsAcquisition settings xs life prn cell
IsOfLife settings xs life (count c) =
    (channel : Channel) × (k : ℕ) × IsCount settings xs life channel k c
IsOfLife settings xs life locked = news_of (counts_by settings xs life) ≡ lock
IsOfLife settings xs life unlocked = news_of (counts_by settings xs life) ≡ unlock
IsOfLife settings xs life signal_lost = news_of (counts_by settings xs life) ≡ lost
IsOfLife settings xs life edge = IsNewEdge (pushes_so_far settings xs life)
IsOfLife settings xs life (gap n) = IsGap (bits_so_far settings xs life) n
IsOfLife settings xs life (subframe s) = IsSubframe (bits_so_far settings xs life) s
IsOfLife settings xs life (reported r) = IsReport (bits_so_far settings xs life) r
IsOfLife settings xs life (almanacs set) =
    IsAlmanacSet (bits_so_far settings xs life) set
    × IsWithPage (bits_so_far settings xs life) (is_of almanac)

-- It says so of the life that the commands leave on just before the last sample.
abbrev pub IsRight : Settings → List Sample → List TimedRequest → Event → Type 0
IsRight settings xs commands event =
    (life : Life) × (life_now settings (front_of xs) commands ≡ Some life)
    × IsOfLife settings xs life event

-- The channel follows the plan's satellite from the due time on, at first at the shift of a cell.
-- And the code goes on: j samples later it is at the phase at which the code of the cell's replica,
-- which began with the acquisition, is by then.
pub record GoesOnFrom (settings : Settings) (plan : Plan) (start cell : ℕ) (channel : Channel)
    : Type 0 where
  pub satellite : channel.prn ≡ plan.prn
  pub is_due : channel.start ≡ due_time settings plan start
  pub shift : channel.steering [] ≡ cell_shift plan cell
  pub code : (j : ℕ)
      → code_phase_after channel.code (cell_phases settings plan cell).code_step j
      ≡ code_phase_after (cell_phases settings plan cell).code
      (cell_phases settings plan cell).code_step (channel.start - start + j)

-- ---- laws

-- Each event that a slot emits is right.
abbrev pub EventsAreRight : Type 0
EventsAreRight = (settings : Settings) (xs : List Sample) (commands : List TimedRequest) (i : ℕ)
    (event : Event)
    → slice_get (events_at_end settings xs commands) i ≡ Some event
    → IsRight settings xs commands event

-- Of these, one by one: each count that is emitted is a dump of the channel that the slot follows,
-- ended by the last sample.
abbrev pub CountsAreDumps : Type 0
CountsAreDumps = (settings : Settings) (xs : List Sample) (commands : List TimedRequest) (i : ℕ)
    (c : Counts)
    → slice_get (events_at_end settings xs commands) i ≡ Some (count c)
    → (life : Life) × (life_now settings (front_of xs) commands ≡ Some life) × (channel : Channel)
    × (k : ℕ) × IsCount settings xs life channel k c

-- Each acquisition that is emitted names the first greatest cell of its plan, over the dwell after
-- its start.
abbrev pub AcquisitionsNameTheGreatest : Type 0
AcquisitionsNameTheGreatest =
    (settings : Settings) (xs : List Sample) (commands : List TimedRequest) (i prn : ℕ)
    (cell : Cell)
    → slice_get (events_at_end settings xs commands) i ≡ Some (acquired prn cell)
    → (life : Life) × (life_now settings (front_of xs) commands ≡ Some life)
    × IsAcquisition settings xs life prn cell

-- Each word that is shown of an emitted subframe passes.
abbrev pub EmittedWordsPass : Type 0
EmittedWordsPass = (settings : Settings) (xs : List Sample) (commands : List TimedRequest) (i : ℕ)
    (s : Subframe)
    → slice_get (events_at_end settings xs commands) i ≡ Some (subframe s)
    → (life : Life) × (life_now settings (front_of xs) commands ≡ Some life)
    × IsSubframe (bits_so_far settings xs life) s

-- A set of almanacs that is reported has the last almanac of each satellite, all of one time of
-- applicability.
abbrev pub AlmanacSetsAgree : Type 0
AlmanacSetsAgree = (bits : List Bool) (set : AlmanacSet)
    → (reports_of (pages_among bits)).set ≡ Some set → IsAlmanacSet bits set

-- A signal is tracked from its due time on where the plan's first greatest cell has the threshold
-- or more, and goes on from that cell.
abbrev pub FoundCodeGoesOn : Type 0
FoundCodeGoesOn = (settings : Settings) (xs : List Sample) (plan : Plan) (start : ℕ)
    (channel : Channel) → acquired_channel settings xs plan start ≡ Some channel
    → (due_time settings plan start ≤ length xs) × (named : ℕ)
    × IsNamed settings xs plan start named (result_of settings plan xs start)
    × ((result_of settings plan xs start).found ≡ true)
    × GoesOnFrom settings plan start named channel
