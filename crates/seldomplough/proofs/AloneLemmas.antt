-- Among the events of all clients, those of one are what it gets alone.
use Rattle.std.proofs.Common.{◌≡◌, ℕ, zero, suc, ◌+◌, ◌-◌, ◌<◌, ◌≤◌, List, [], ◌∷◌, ◌++◌, length}
use Rattle.std.proofs.Common.{refl, ap, ◌∙◌, arith, map, get_or}
use Rattle.std.specs.Prelude.{Bool, true, false, flat_map, filter, nat_eq}
use Rattle.std.specs.List.{range_with_len, enumerate_from}
use Rattle.std.proofs.lemmas.List.Elements.{filter-append}
use Rattle.std.proofs.lemmas.List.Folds.{flat_map-map}
use Rattle.std.proofs.lemmas.List.{append-nil}
use Rattle.std.proofs.lemmas.Grind.{flat_map-append}
use Rattle.std.proofs.lemmas.Bool.{true_from_ne_false, false_from_ne_true, eqb-true, eqb-false}
use Rattle.definitions.specs.Samples.{Sample}
use Rattle.definitions.specs.Oscillators.{Settings}
use Rattle.definitions.specs.Commands.{TimedRequest}
use Rattle.definitions.specs.Events.{Event, events_at_end}
use Rattle.definitions.specs.Banks.{SlotEvent as DefinedSlotEvent, slot_events, bank_events_at_end}
use Rattle.definitions.specs.Banks.{layout}
use Rattle.definitions.specs.Receiver.{at_each_sample}
use Rattle.slot_protocol.specs.declared.event.SlotEvent.{SlotEvent}
use Rattle.slot_protocol.specs.Events.{AreEvents, slot_event_in}
use Rattle.channel_slots.specs.Banks.{row_of as row}
use Rattle.seldomplough.specs.Receivers.{events_for, client_events_at_end}

-- those of a client, as they are defined
of_client : ℕ → List DefinedSlotEvent → List DefinedSlotEvent
of_client client events = filter (λ (e : DefinedSlotEvent). nat_eq e.client client) events

-- events are the same before and after
events_for-same : (client : ℕ) (events : List SlotEvent)
    → map slot_event_in (events_for client events) ≡ of_client client (map slot_event_in events)
unfolding of_client
events_for-same client [] = refl
events_for-same client (e ∷ events) =
    by_test (nat_eq e.client client) refl (events_for-same client events)
  where
    by_test : (b : Bool) → nat_eq e.client client ≡ b
        → map slot_event_in (events_for client events) ≡ of_client client (map slot_event_in events)
        → map slot_event_in (events_for client (e ∷ events))
        ≡ of_client client (map slot_event_in (e ∷ events))
    by_test true is rest = rw (is, rest) refl
    by_test false is rest = rw (is, rest) refl

of_client-append : (client : ℕ) (a b : List DefinedSlotEvent)
    → of_client client (a ++ b) ≡ of_client client a ++ of_client client b
unfolding of_client
of_client-append client a b = filter-append (λ (e : DefinedSlotEvent). nat_eq e.client client) a b

of_client-each : (client : ℕ) (tells : List Sample → List DefinedSlotEvent) (xs ys : List Sample)
    → of_client client (at_each_sample tells xs ys)
    ≡ at_each_sample (λ zs. of_client client (tells zs)) xs ys
unfolding at_each_sample of_client
of_client-each client tells xs [] = refl
of_client-each client tells xs (y ∷ ys) =
    of_client-append client (tells (xs ++ y ∷ [])) (at_each_sample tells (xs ++ y ∷ []) ys)
    ∙ ap (λ r. of_client client (tells (xs ++ y ∷ [])) ++ r)
    (of_client-each client tells (xs ++ y ∷ []) ys)

-- the same at each sample
at_each_sample-same : (f g : List Sample → List DefinedSlotEvent)
    → ((zs : List Sample) → f zs ≡ g zs) → (xs ys : List Sample)
    → at_each_sample f xs ys ≡ at_each_sample g xs ys
unfolding at_each_sample
at_each_sample-same f g same xs [] = refl
at_each_sample-same f g same xs (y ∷ ys) =
    rw (same (xs ++ y ∷ []), at_each_sample-same f g same (xs ++ y ∷ []) ys) refl

own : (client slot time : ℕ) (events : List Event)
    → of_client client (slot_events client slot time events)
    ≡ slot_events client slot time events
unfolding of_client
own client slot time [] = refl
own client slot time (e ∷ events) =
    let is : nat_eq client client ≡ true =
    true_from_ne_false (nat_eq client client) (λ e. eqb-false client client e refl) in
    rw (is, own client slot time events) refl

others : (client other slot time : ℕ) (events : List Event) → (other ≡ client → ⊥)
    → of_client client (slot_events other slot time events) ≡ []
unfolding of_client
others client other slot time [] ne = refl
others client other slot time (e ∷ events) ne =
    let is : nat_eq other client ≡ false =
    false_from_ne_true (nat_eq other client) (λ yes. ne (eqb-true other client yes)) in
    rw (is, others client other slot time events ne) refl

module _ (settings : Settings) (asked : ℕ → ℕ → List TimedRequest) (xs : List Sample) where
  -- what a slot of a client emits, and slots of clients in turn
  emitted : ℕ × ℕ → List DefinedSlotEvent
  emitted (client, slot) =
      slot_events client slot (length xs) (events_at_end settings xs (asked client slot))

  rows : ℕ → List ℕ → List (ℕ × ℕ)
  rows first shares =
      flat_map (λ (client, share). map (λ slot. (client, slot)) (range_with_len 0 share))
      (enumerate_from first shares)

  row-own : (client : ℕ) (slots : List ℕ)
      → of_client client (flat_map (λ slot. emitted (client, slot)) slots)
      ≡ flat_map (λ slot. emitted (client, slot)) slots
  unfolding emitted of_client
  row-own client [] = refl
  row-own client (slot ∷ slots) =
      of_client-append client (emitted (client, slot))
      (flat_map (λ slot. emitted (client, slot)) slots)
      ∙ rw (
        own client slot (length xs) (events_at_end settings xs (asked client slot)),
        row-own client slots,
      ) refl

  row-other : (client other : ℕ) (slots : List ℕ) → (other ≡ client → ⊥)
      → of_client client (flat_map (λ slot. emitted (other, slot)) slots) ≡ []
  unfolding emitted of_client
  row-other client other [] ne = refl
  row-other client other (slot ∷ slots) ne =
      of_client-append client (emitted (other, slot))
      (flat_map (λ slot. emitted (other, slot)) slots)
      ∙ rw (
        others client other slot (length xs) (events_at_end settings xs (asked other slot)) ne,
        row-other client other slots ne,
      ) refl

  -- the first client's slots, and those after them
  split : (client first share : ℕ) (shares : List ℕ)
      → of_client client (flat_map emitted (rows first (share ∷ shares)))
      ≡ of_client client (flat_map (λ slot. emitted (first, slot)) (range_with_len 0 share))
      ++ of_client client (flat_map emitted (rows (first + 1) shares))
  unfolding rows
  split client first share shares =
      ap (of_client client) (flat_map-append emitted (row first share) (rows (first + 1) shares)
      ∙ ap (λ r. r ++ flat_map emitted (rows (first + 1) shares))
      (flat_map-map emitted (λ slot. (first, slot)) (range_with_len 0 share)))
      ∙ of_client-append client (flat_map (λ slot. emitted (first, slot)) (range_with_len 0 share))
      (flat_map emitted (rows (first + 1) shares))

  later : (client first : ℕ) (shares : List ℕ) → client < first
      → of_client client (flat_map emitted (rows first shares)) ≡ []
  unfolding rows of_client
  later client first [] h = refl
  later client first (share ∷ shares) h =
      split client first share shares
      ∙ rw (
        row-other client first (range_with_len 0 share) (λ e. omega (arith, e, h)),
        later client (first + 1) shares (omega (arith, h)),
      ) refl

  among : (first k : ℕ) (shares : List ℕ)
      → of_client (first + k) (flat_map emitted (rows first shares))
      ≡ flat_map (λ slot. emitted (first + k, slot)) (range_with_len 0 (get_or shares k 0))
  unfolding rows of_client
  among first k [] = refl
  among first zero (share ∷ shares) =
      let e : first + 0 ≡ first = omega arith in
      rw e (split first first share shares
      ∙ rw (row-own first (range_with_len 0 share), later first (first + 1) shares (omega arith))
      (append-nil (flat_map (λ slot. emitted (first, slot)) (range_with_len 0 share))))
  among first (suc k) (share ∷ shares) =
      let e : first + suc k ≡ first + 1 + k = omega arith in
      split (first + suc k) first share shares
      ∙ rw (row-other (first + suc k) first (range_with_len 0 share) (λ e. omega (arith, e)))
      (rw e (among (first + 1) k shares))

  -- with the last sample
  at-end : (shares : List ℕ) (client : ℕ) → 1 ≤ client
      → of_client client (bank_events_at_end settings (layout shares) asked xs)
      ≡ client_events_at_end settings client (get_or shares (client - 1) 0) (asked client) xs
  unfolding bank_events_at_end emitted rows
  at-end shares client first =
      let e : 1 + (client - 1) ≡ client = omega (arith, first) in
      rw e at (among 1 (client - 1) shares)

-- over a run of samples
pub alone : (settings : Settings) (asked : ℕ → ℕ → List TimedRequest) (shares : List ℕ)
    (xs ys : List Sample) (events : List SlotEvent) (client : ℕ) → 1 ≤ client
    → AreEvents events
    (at_each_sample (bank_events_at_end settings (layout shares) asked) xs ys)
    → AreEvents (events_for client events) (at_each_sample
    (client_events_at_end settings client (get_or shares (client - 1) 0) (asked client)) xs ys)
alone settings asked shares xs ys events client first are =
    events_for-same client events ∙ ap (of_client client) are
    ∙ of_client-each client (bank_events_at_end settings (layout shares) asked) xs ys
    ∙ at_each_sample-same
    (λ zs. of_client client (bank_events_at_end settings (layout shares) asked zs))
    (client_events_at_end settings client (get_or shares (client - 1) 0) (asked client))
    (λ zs. at-end settings asked zs shares client first) xs ys
