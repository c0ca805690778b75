-- Slots that have nothing to do for some samples.
use Rattle.std.proofs.Common.{◌≡◌, ◌≤◌, ◌<◌, ◌+◌, ℕ, List, [], ◌∷◌, length}
use Rattle.std.proofs.Common.{refl, arith, true, take, slice_set}
use Rattle.std.proofs.lemmas.List.{take_more_set}
use Rattle.channel_slots.specs.declared.seat.Seat.{Seat}
use Rattle.channel_slots.specs.declared.stage.Stage.{Stage}
use Rattle.channel_slots.specs.declared.stage.Stage.TheVariants.{Idle, Searching, Following}
use Rattle.channel_slots.specs.Stages as stages
use Rattle.channel_slots.specs.Slots.{next_event}
use Rattle.channel_slots.specs.Banks.{AllIdle, AllRest, RunsAll, SeatGoes}
use Rattle.channel_slots.specs.declared.slot.TheConstants.{NEVER}
use Rattle.channels.specs.declared.window.Window.{Window}
use Rattle.channels.specs.Windows.{end_of}
use Rattle.slot_protocol.specs.declared.event.SlotEvent.{SlotEvent}
use Rattle.channel_slots.proofs.GoesLemmas.{begins, goes}
use Rattle.channel_slots.proofs.QuietSlotLemmas.{quiet-before-next}
use Rattle.channel_slots.proofs.SeatLemmas.{all_push}

-- up to fewer samples they rest too
pub rest-earlier : (next sooner : ℕ) (ps : List Seat) → sooner ≤ next → AllRest next ps
    → AllRest sooner ps
rest-earlier next sooner [] less rest = tt
rest-earlier next sooner (p ∷ ps) less rest =
    (omega (arith, rest.0, less), rest-earlier next sooner ps less rest.1)

-- one more of them
pub rests-more : (next sooner : ℕ) (qs : List Seat) (i : ℕ) (q : Seat) → i < length qs
    → sooner ≤ next → sooner ≤ next_event q.slot → AllRest next (take i qs)
    → AllRest sooner (take (i + 1) (slice_set qs i q))
rests-more next sooner qs i q within less own rest =
    rw (take_more_set qs i q within)
    (all_push (λ (p : Seat). sooner ≤ next_event p.slot) (take i qs) q
    (rest-earlier next sooner (take i qs) less rest) own)

-- idle ones have nothing to do
pub idle-rest : (ps : List Seat) → AllIdle ps → AllRest NEVER ps
idle-rest [] idle = tt
idle-rest (p ∷ ps) idle = (by_stage p.slot.stage idle.0, idle-rest ps idle.1)
  where
    by_stage : (stage : Stage) → stages.is_idle stage ≡ true → NEVER ≤ stages.next_event stage
    by_stage Idle e = omega arith
    by_stage (Searching s) e = cc
    by_stage (Following f) e = cc

-- a seat whose next event comes after a window has gone through it
pub seat-rests : (w : Window) (p : Seat) (before : List SlotEvent) → end_of w < next_event p.slot
    → SeatGoes w p p before before
seat-rests w p before early =
    goes w p p before before (begins w p before) (omega arith)
    (λ settings xs ys commands s some now.
    quiet-before-next settings xs ys commands p.slot s some (omega (arith, now, early)))

-- all of them
pub all-rest-runs : (w : Window) (next : ℕ) (ps : List Seat) (events : List SlotEvent)
    → AllRest next ps → end_of w < next → RunsAll w ps ps events events
all-rest-runs w next [] events rest before = (refl, refl)
all-rest-runs w next (p ∷ ps) events rest before = (
  events,
  seat-rests w p events (omega (arith, rest.0, before)),
  all-rest-runs w next ps events rest.1 before,
)
