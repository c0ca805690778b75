-- All seats of a bank take a block.
use Rattle.std.proofs.Common.{◌≡◌, ℕ, zero, suc, ◌+◌, ◌<◌, List, [], ◌∷◌, ◌++◌, length}
use Rattle.std.proofs.Common.{take, drop, refl, sym, ap, ◌∙◌, arith, get_or, slice_set}
use Rattle.std.specs.Prelude.{map}
use Rattle.definitions.specs.Banks.{SlotEvent as DefinedSlotEvent, slot_events}
use Rattle.std.specs.List.{AllByRecursion}
use Rattle.std.proofs.lemmas.List.{take_more, take_more_set, drop-set-lt, get_or-drop}
use Rattle.definitions.specs.Events.{Event as DefinedEvent}
use Rattle.slot_protocol.specs.declared.event.Event.{Event}
use Rattle.slot_protocol.specs.declared.event.SlotEvent.{SlotEvent}
use Rattle.channel_slots.specs.declared.seat.Seat.{Seat}
use Rattle.slot_protocol.specs.Events.{AreEvents, event_in, slot_event_in}
use Rattle.channels.specs.declared.window.Window.{Window}
use Rattle.channel_slots.specs.Banks.{SeatGoes, SeatPasses, RunsAll, PassAll}
use Rattle.channel_slots.specs.Timelines.{event_at}

pub all_push : {A : Type 0} (P : A → Type 0) (xs : List A) (x : A) → AllByRecursion P xs → P x
    → AllByRecursion P (xs ++ x ∷ [])
all_push P [] x all h = (h, tt)
all_push P (y ∷ ys) x all h = (all.0, all_push P ys x all.1 h)

-- ---- one seat
-- its events come where its slot emits them
pub are_told : (p : Seat) (time : ℕ) (events : List Event) (told : List DefinedEvent)
    → map event_in events ≡ told
    → AreEvents (map (event_at p.client p.number time) events)
    (slot_events p.client p.number time told)
are_told p time events told same = from_map events ∙ ap (slot_events p.client p.number time) same
  where
    from_map : (es : List Event) → map slot_event_in (map (event_at p.client p.number time) es)
        ≡ slot_events p.client p.number time (map event_in es)
    from_map [] = refl
    from_map (e ∷ es) =
        ap (λ (l : List DefinedSlotEvent). slot_event_in (event_at p.client p.number time e) ∷ l)
        (from_map es)

-- ---- the loop over the seats
same_item : (ps qs : List Seat) (i : ℕ) (d : Seat) → drop i qs ≡ drop i ps
    → get_or qs i d ≡ get_or ps i d
same_item ps qs i d rest =
    let e : i + 0 ≡ i = omega arith in
    let a : get_or (drop i qs) 0 d ≡ get_or (drop i ps) 0 d =
    ap (λ (l : List Seat). get_or l 0 d) rest in
    rw (get_or-drop i qs 0 d, get_or-drop i ps 0 d, e) at a

runs_push : (w : Window) (ps qs : List Seat)
    (before mid after : List SlotEvent) (p q : Seat) → RunsAll w ps qs before mid
    → SeatGoes w p q mid after
    → RunsAll w (ps ++ p ∷ []) (qs ++ q ∷ []) before after
runs_push w [] qs before mid after p q s one =
    rw s.0 (after, rw s.1 at one, (refl, refl))
runs_push w (p' ∷ ps) [] before mid after p q s one = absurd s
runs_push w (p' ∷ ps) (q' ∷ qs) before mid after p q s one =
    (s.0, s.1, runs_push w ps qs s.0 mid after p q s.2 one)

pub runs-more : (w : Window) (ps qs : List Seat)
    (i : ℕ) (d q : Seat)
    (before mid after : List SlotEvent) → i < length ps → i < length qs → drop i qs ≡ drop i ps
    → SeatGoes w (get_or qs i d) q mid after
    → RunsAll w (take i ps) (take i qs) before mid
    → RunsAll w (take (i + 1) ps) (take (i + 1) (slice_set qs i q)) before after
runs-more w ps qs i d q before mid after b b' rest one s =
    rw (take_more_set qs i q b', take_more ps i d b, sym (same_item ps qs i d rest))
    (runs_push w (take i ps) (take i qs) before mid after (get_or qs i d) q s one)

passes_push : (w : Window) (ps qs : List Seat) (p q : Seat) → PassAll w ps qs → SeatPasses w p q
    → PassAll w (ps ++ p ∷ []) (qs ++ q ∷ [])
passes_push w [] qs p q s one = rw s (one, refl)
passes_push w (p' ∷ ps) [] p q s one = absurd s
passes_push w (p' ∷ ps) (q' ∷ qs) p q s one = (s.0, passes_push w ps qs p q s.1 one)

pub passes-more : (w : Window) (ps qs : List Seat) (i : ℕ) (d q : Seat) → i < length ps
    → i < length qs → drop i qs ≡ drop i ps → SeatPasses w (get_or qs i d) q
    → PassAll w (take i ps) (take i qs)
    → PassAll w (take (i + 1) ps) (take (i + 1) (slice_set qs i q))
passes-more w ps qs i d q b b' rest one s =
    rw (take_more_set qs i q b', take_more ps i d b, sym (same_item ps qs i d rest))
    (passes_push w (take i ps) (take i qs) (get_or qs i d) q s one)

all_at : (P : Seat → Type 0) (ps : List Seat) (i : ℕ) (d : Seat) → i < length ps
    → AllByRecursion P ps → P (get_or ps i d)
all_at P [] i d b all = absurd (omega (arith, b))
all_at P (p ∷ ps) zero d b all = all.0
all_at P (p ∷ ps) (suc i) d b all = all_at P ps i d (omega (arith, b)) all.1

-- what is known of each is known of one
pub one-of : (P : Seat → Type 0) (ps qs : List Seat) (i : ℕ) (d : Seat) → i < length ps
    → drop i qs ≡ drop i ps → AllByRecursion P ps → P (get_or qs i d)
one-of P ps qs i d b rest all = rw (same_item ps qs i d rest) (all_at P ps i d b all)

drop_one : (i : ℕ) (l : List Seat) → drop 1 (drop i l) ≡ drop (i + 1) l
drop_one zero l = let e : 0 + 1 ≡ 1 = omega arith in rw e
drop_one (suc i) [] = let e : suc i + 1 ≡ suc (i + 1) = omega arith in rw e
drop_one (suc i) (x ∷ l) = let e : suc i + 1 ≡ suc (i + 1) = omega arith in rw e (drop_one i l)

pub rest-more : (ps qs : List Seat) (i : ℕ) (q : Seat) → drop i qs ≡ drop i ps
    → drop (i + 1) (slice_set qs i q) ≡ drop (i + 1) ps
rest-more ps qs i q rest =
    drop-set-lt (i + 1) qs i q (omega arith) ∙ sym (drop_one i qs)
    ∙ ap (λ (l : List Seat). drop 1 l) rest ∙ drop_one i ps
