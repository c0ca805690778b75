-- Slots find all that they look at: by their stage, as they begin, and over a run of a bank.
use Rattle.std.proofs.Common.{◌≡◌, ◌≤◌, ◌<◌, ◌+◌, ◌-◌, ◌*◌, ◌/◌, ℕ, List, [], ◌∷◌}
use Rattle.std.proofs.Common.{true, arith}
use Rattle.std.specs.Prelude.{Bool, false, min, if◌then◌else◌}
use Rattle.std.specs.List.{AllByRecursion}
use Rattle.definitions.specs.Samples.{Packing, real1, real2, iq1, iq2, samples_per_byte}
use Rattle.definitions.specs.Oscillators.{Settings}
use Rattle.definitions.specs.Acquisition.{Plan}
use Rattle.sample_history.specs.declared.history.SampleHistory.{SampleHistory}
use Rattle.sample_history.specs.Histories as histories
use Rattle.tracking_loops.specs.declared.news.News.{News}
use Rattle.channels.specs.declared.followed.Followed.{Followed}
use Rattle.channels.specs.declared.searched.Searched.{Searched}
use Rattle.channels.specs.declared.window.Window.{Window}
use Rattle.channels.specs.Dumps.{is_loss}
use Rattle.channels.specs.Windows.{first_of, end_of, history_of}
use Rattle.channels.specs.Searching.{Begins}
use Rattle.channels.specs.FollowedChannels.{HasBegun, next_dump}
use Rattle.channel_slots.specs.declared.bank.TheConstants.{ROOM}
use Rattle.channel_slots.specs.declared.stage.Stage.{Stage}
use Rattle.channel_slots.specs.declared.stage.Stage.TheVariants.{Idle, Searching, Following}
use Rattle.channel_slots.specs.Stages as stages
use Rattle.channel_slots.specs.Stages.{after_dump, next_event}
use Rattle.channel_slots.specs.declared.slot.TheConstants.{NEVER}
use Rattle.channel_slots.specs.declared.seat.Seat.{Seat}
use Rattle.channel_slots.specs.Banks.{AllRest, AllIdle, AllReady}

-- ---- one stage
module _ (held first to : ℕ) where
  -- after a dump with which the signal may be lost
  pub dump-ready : (f : Followed) (lock : News) → stages.IsReady held first to (Following f)
      → stages.IsReady held first to (after_dump lock (Following f))
  dump-ready f lock ready = by_test (is_loss lock)
    where
      by_test : (b : Bool) → stages.IsReady held first to (if b then Idle else Following f)
      by_test true = tt
      by_test false = ready

  pub idle-is-ready : (stage : Stage) → stages.is_idle stage ≡ true
      → stages.IsReady held first to stage
  idle-is-ready Idle e = tt
  idle-is-ready (Searching s) e = cc
  idle-is-ready (Following f) e = cc

  pub idle-are-ready : (seats : List Seat) → AllIdle seats
      → AllByRecursion (λ (p : Seat). stages.IsReady held first to p.slot.stage) seats
  idle-are-ready [] idle = tt
  idle-are-ready (p ∷ seats) idle =
      (idle-is-ready p.slot.stage idle.0, idle-are-ready seats idle.1)

-- ---- the first event of one that begins comes later
pub search-begins-quiet : (settings : Settings) (plan : Plan) (time : ℕ) (s : Searched)
    → Begins settings plan time s → time < next_event (Searching s)
search-begins-quiet settings plan time s b = omega (arith, b.none, b.begun, b.waits)

pub channel-begins-quiet : (steered : Bool) (time : ℕ) (f : Followed) → HasBegun time steered f
    → time < next_event (Following f)
channel-begins-quiet steered time f b = omega (arith, b.at, f.follower.waits)

pub idle-is-quiet : (time : ℕ) (stage : Stage) → stages.is_idle stage ≡ true → time < NEVER
    → time < next_event stage
idle-is-quiet time Idle e early = early
idle-is-quiet time (Searching s) e early = cc
idle-is-quiet time (Following f) e early = cc

pub dump-later : (time : ℕ) (f : Followed) (lock : News) → time < NEVER → time < next_dump f
    → time < next_event (after_dump lock (Following f))
dump-later time f lock early later = by_test (is_loss lock)
  where
    by_test : (b : Bool) → time < next_event (if b then Idle else Following f)
    by_test true = early
    by_test false = later

-- ---- over a run

-- a history holds its last samples, as many as it has room for
history-holds : (h : SampleHistory) → histories.first_of h ≤ histories.taken_of h
    - histories.room_of h
history-holds h = by_packing (histories.packing_in h) _ _ _ h.kept
  where
    by_packing : (packing : Packing) (taken room held : ℕ)
        → held ≡ min room (taken / samples_per_byte packing)
        → samples_per_byte packing * (taken / samples_per_byte packing - held)
        ≤ taken - samples_per_byte packing * room
    by_packing real1 taken room held is = omega (arith, is)
    by_packing real2 taken room held is = omega (arith, is)
    by_packing iq1 taken room held is = omega (arith, is)
    by_packing iq2 taken room held is = omega (arith, is)

-- where a run comes after samples with which none had an event, each search still finds its dwell
module _ (old new : Window) (next : ℕ) (room : ROOM ≤ histories.room_of (history_of new))
    (first : first_of new ≡ first_of old) (more : end_of old ≤ end_of new)
    (few : end_of new ≤ end_of old + 1_024) (waits : end_of old < next) where
  stage-ready : (stage : Stage) → next ≤ next_event stage
      → stages.IsReady (histories.first_of (history_of old)) (first_of old) (end_of old) stage
      → stages.IsReady (histories.first_of (history_of new)) (first_of new) (end_of new) stage
  stage-ready Idle rest ready = tt
  stage-ready (Searching s) rest ready = (
    omega (arith, history-holds (history_of new), room, few, waits, rest, s.near),
    omega (arith, ready.1, first),
  )
  stage-ready (Following f) rest ready =
      (omega (arith, ready.0, first), omega (arith, ready.1, more))

  pub still-ready : (seats : List Seat) → AllRest next seats → AllReady old seats
      → AllReady new seats
  still-ready [] rest ready = tt
  still-ready (p ∷ seats) rest ready =
      (stage-ready p.slot.stage rest.0 ready.0, still-ready seats rest.1 ready.1)
