-- What the last sample makes one slot emit, after the requests made to it before. (This project's
-- own.)
--
-- Time is the number of samples so far: at time T samples 0 to T - 1 are known, and `xs` is always
-- those. A command at time T acts before sample T; what the last sample causes comes before the
-- commands of that time.
use Rattle.std.specs.Prelude.{ℕ, zero, suc, ◌+◌, ◌-◌, ◌==◌, ◌&&◌, not, Bool, nat_lt, nat_le}
use Rattle.std.specs.Prelude.{if◌then◌else◌, ℤ, List, [], ◌∷◌, ◌++◌, map, filter, length, take}
use Rattle.std.specs.Prelude.{drop, slice_get, filter_map, Option, Some, None}
use Rattle.definitions.specs.Samples.{Sample}
use Rattle.definitions.specs.Oscillators.{Settings}
use Rattle.definitions.specs.Correlation.{Counts}
use Rattle.definitions.specs.Segments.{Dump, counts_of}
use Rattle.definitions.specs.Lock.{News, nothing, lock, unlock, lost, news_of, is_locked}
use Rattle.definitions.specs.Acquisition.{Cell, result_of, due_time}
use Rattle.definitions.specs.BitEdge.{has_edge, bits_of}
use Rattle.definitions.specs.Frames.{Subframe, Found, found_by, starts_of, subframe_at}
use Rattle.definitions.specs.Pages.{Page, page_of}
use Rattle.definitions.specs.DataSets.{Report, AlmanacSet, Reports, reports_of}
use Rattle.definitions.specs.Commands.{Start, TimedRequest, hold, track, acquire}
use Rattle.definitions.specs.Lives.{Life, is_steered, dumps_of_life, life_now}

-- what a slot emits
pub data Event : Type 0 where
  acquired : ℕ → Cell → Event
  count : Counts → Event
  locked : Event
  unlocked : Event
  signal_lost : Event
  edge : Event
  gap : ℕ → Event
  subframe : Subframe → Event
  reported : Report → Event
  almanacs : AlmanacSet → Event

abbrev pub when : Bool → Event → List Event
when b event = if b then event ∷ [] else []

abbrev pub events_of : {A : Type 0} → (A → Event) → Option A → List Event
events_of f None = []
events_of f (Some x) = f x ∷ []

-- after such dumps, how many are still to be printed: as many as were asked for, less those that
-- have come since
unfoldable pub unprinted_count : Life → List Dump → ℕ
unprinted_count life dumps =
    life.wanted - length (filter (λ (d : Dump). nat_lt life.wanted_from d.time) dumps)

unfoldable pub last_of : {A : Type 0} → List A → Option A
last_of xs = slice_get xs (length xs - 1)

unfoldable pub front_of : {A : Type 0} → List A → List A
front_of xs = take (length xs - 1) xs

abbrev pub news_events : News → List Event
news_events nothing = []
news_events lock = locked ∷ []
news_events unlock = unlocked ∷ []
news_events lost = signal_lost ∷ []

-- of the first k dumps, the prompt sums of those after the last that answered with a lock, where
-- the loops are locked by then: a dump is pushed where they are locked before it and after it. Each
-- lock begins a new list, and the dump that ends the lock is not among them
unfoldable pub pushes_by : List Counts → ℕ → List ℤ
pushes_by dumps zero = []
pushes_by dumps (suc k) = if is_locked (take k dumps) && is_locked (take (suc k) dumps)
    then pushes_by dumps k ++ map (λ (d : Counts). d.ip) (drop k (take (suc k) dumps))
    else []

unfoldable pub pushes_of : List Counts → List ℤ
pushes_of dumps = pushes_by dumps (length dumps)

-- the pages of the subframes that the bits make whole
unfoldable pub pages_among : List Bool → List Page
pages_among bits = filter_map page_of
    (map (subframe_at bits) (filter (λ n. nat_le (n + 300) (length bits)) (starts_of bits)))

-- the page's own report, and then perhaps a set of almanacs
abbrev pub report_events : Reports → List Event
report_events reports = events_of reported reports.page ++ events_of almanacs reports.set

-- a page that came with the last subframe is the last page
abbrev pub page_events : List Bool → Option Page → List Event
page_events bits None = []
page_events bits (Some last) = report_events (reports_of (pages_among bits))

-- what the last of the bits reports
abbrev pub bit_events : List Bool → Option Found → List Event
bit_events bits None = []
bit_events bits (Some found) =
    events_of gap found.gap ++ subframe found.subframe ∷ []
    ++ page_events bits (page_of found.subframe)

-- what the last of the pushes reports: the edge, or a bit that is whole with it
unfoldable pub push_events : List ℤ → List Event
push_events pushes = let bits = bits_of pushes in
    when (has_edge pushes && not (has_edge (front_of pushes))) edge
    ++ (if nat_lt (length (bits_of (front_of pushes))) (length bits)
    then bit_events bits (found_by bits) else [])

-- what the last dump of a tracking slot reports beside its sums
unfoldable pub steered_events : List Counts → List Event
steered_events dumps = news_events (news_of dumps) ++ push_events (pushes_of dumps)

abbrev pub dump_events : Life → List Dump → Dump → List Event
dump_events life dumps d = when (nat_lt 0 (unprinted_count life (front_of dumps))) (count d.counts)
    ++ (if is_steered life.start then steered_events (counts_of dumps) else [])

-- what a dump emits, where it ends with the last sample
abbrev pub last_dump_events : Life → ℕ → List Dump → Option Dump → List Event
last_dump_events life n dumps None = []
last_dump_events life n dumps (Some d) = if d.time == n then dump_events life dumps d else []

-- what an acquisition emits, where it is due with the last sample
abbrev pub due_events : Settings → List Sample → ℕ → Start → List Event
due_events settings xs begun (hold prn doppler half_chip) = []
due_events settings xs begun (track prn doppler half_chip) = []
due_events settings xs begun (acquire plan) =
    when (due_time settings plan begun == length xs)
    (acquired plan.prn (result_of settings plan xs begun))

unfoldable pub life_events : Settings → List Sample → Option Life → List Event
life_events settings xs None = []
life_events settings xs (Some life) = let dumps = dumps_of_life settings xs life in
    due_events settings xs life.begun life.start
    ++ last_dump_events life (length xs) dumps (last_of dumps)

-- what the last sample makes the slot emit, after commands that all came before it. The life that
-- is on just before that sample emits it, and its own end too. A life that is over by then emits
-- nothing
unfoldable pub events_at_end : Settings → List Sample → List TimedRequest → List Event
events_at_end settings xs commands =
    life_events settings xs (life_now settings (front_of xs) commands)
