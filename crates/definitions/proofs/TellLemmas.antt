-- What slots side by side emit is, line by line, what the receiver writes of them.
use Rattle.std.proofs.Common.{◌≡◌, ℕ, suc, ◌+◌, ◌<◌, ◌≤◌, List, [], ◌∷◌, ◌++◌, length, take, refl}
use Rattle.std.proofs.Common.{sym, ap, ◌∙◌, append_assoc, arith}
use Rattle.std.specs.Prelude.{map, flat_map, replicate, Some, slice_get}
use Rattle.std.specs.List.{range_with_len, enumerate_from, AllByRecursion}
use Rattle.std.proofs.lemmas.List.{map-append}
use Rattle.std.proofs.lemmas.Grind.{flat_map-append}
use Rattle.definitions.specs.Samples.{Sample}
use Rattle.definitions.specs.Oscillators.{Settings}
use Rattle.definitions.specs.Commands.{TimedRequest}
use Rattle.definitions.specs.Events.{Event, events_at_end}
use Rattle.definitions.specs.Texts.{event_text, at_time, for_client}
use Rattle.definitions.specs.Receiver.{Client, entries_of, entries_before, commands_to}
use Rattle.definitions.specs.Receiver.{event_texts, slot_event_texts, event_lines, at_each_sample}
use Rattle.definitions.specs.Receiver.{timed_texts, for_each_client}
use Rattle.definitions.specs.Banks.{SlotEvent, line_of, slot_events, bank_events_at_end, layout}

-- their lines
abbrev pub lines_of : List SlotEvent → List (List ℕ)
lines_of ts = map line_of ts

lines-append : (ts us : List SlotEvent) → lines_of (ts ++ us) ≡ lines_of ts ++ lines_of us
lines-append ts us = map-append line_of ts us

-- the clients' shares of the slots
abbrev pub shares_of : List Client → List ℕ
shares_of clients = map (λ (client : Client). client.slots) clients

pub shares-equal : (slots : ℕ) (clients : List Client)
    → AllByRecursion (λ (client : Client). client.slots ≡ slots) clients
    → shares_of clients ≡ replicate (length clients) slots
shares-equal slots [] all = refl
shares-equal slots (client ∷ clients) all = rw (all.0, shares-equal slots clients all.1) refl

-- a client's slots, one after another
abbrev slots_of : ℕ → List ℕ → List (ℕ × ℕ)
slots_of client slots = map (λ s. (client, s)) slots

module _ (settings : Settings) (xs : List Sample)
    (asked : ℕ → ℕ → List TimedRequest) where
  one_slot : (client slot : ℕ) (events : List Event)
      → lines_of (slot_events client slot (length xs) events)
      ≡ map (for_client client) (timed_texts xs (map (event_text slot) events))
  one_slot client slot [] = refl
  one_slot client slot (e ∷ events) =
      ap (λ r. for_client client (at_time (length xs) (event_text slot e)) ∷ r)
      (one_slot client slot events)

  tell : ℕ × ℕ → List SlotEvent
  tell k = slot_events k.0 k.1 (length xs) (events_at_end settings xs (asked k.0 k.1))

  one_client : (number : ℕ) (client : Client) (slots : List ℕ)
      → ((s : ℕ) → asked number s
      ≡ commands_to s (entries_before (length xs) (entries_of client)))
      → lines_of (flat_map tell (slots_of number slots))
      ≡ map (for_client number)
      (timed_texts xs (flat_map
      (slot_event_texts settings xs (entries_of client)) slots))
  unfolding tell
  one_client number client [] own = refl
  one_client number client (s ∷ slots) own =
      let here : List (List ℕ) =
      slot_event_texts settings xs (entries_of client) s in
      let behind : List (List ℕ) =
      flat_map (slot_event_texts settings xs (entries_of client)) slots in
      lines-append (tell (number, s)) (flat_map tell (slots_of number slots))
      ∙ ap (λ r. r ++ lines_of (flat_map tell (slots_of number slots)))
      (one_slot number s (events_at_end settings xs (asked number s))
      ∙ ap (λ (cs : List TimedRequest). map (for_client number)
      (timed_texts xs (map (event_text s)
      (events_at_end settings xs cs)))) (own s))
      ∙ ap (λ r. map (for_client number) (timed_texts xs here) ++ r)
      (one_client number client slots own)
      ∙ sym (ap (λ ls. map (for_client number) ls) (map-append (at_time (length xs)) here behind)
      ∙ map-append (for_client number) (timed_texts xs here) (timed_texts xs behind))

  all_clients : (b : ℕ) (clients : List Client)
      → ((k : ℕ) (client : Client) → slice_get clients k ≡ Some client → (s : ℕ)
      → asked (b + k) s
      ≡ commands_to s (entries_before (length xs) (entries_of client)))
      → lines_of
      (flat_map tell (flat_map (λ (p : ℕ × ℕ). slots_of p.0 (range_with_len 0 p.1))
      (enumerate_from b (shares_of clients))))
      ≡ flat_map (λ (p : ℕ × Client). map (for_client p.0)
      (timed_texts xs (event_texts settings p.1 xs))) (enumerate_from b clients)
  unfolding event_texts
  all_clients b [] own = refl
  all_clients b (client ∷ clients) own =
      let none : b + 0 ≡ b = omega arith in
      let first : List (ℕ × ℕ) = slots_of b (range_with_len 0 client.slots) in
      let others : List (ℕ × ℕ) =
      flat_map (λ (p : ℕ × ℕ). slots_of p.0 (range_with_len 0 p.1))
      (enumerate_from (b + 1) (shares_of clients)) in
      ap lines_of (flat_map-append tell first others)
      ∙ lines-append (flat_map tell first) (flat_map tell others)
      ∙ ap (λ r. r ++ lines_of (flat_map tell others))
      (one_client b client (range_with_len 0 client.slots)
      (λ s. rw none at (own 0 client refl s)))
      ∙ ap (λ r. map (for_client b) (timed_texts xs (event_texts settings client xs)) ++ r)
      (all_clients (b + 1) clients
      (λ k c found s. let e : b + 1 + k ≡ b + suc k = omega arith in
      rw e (own (suc k) c found s)))

-- what the last sample makes the slots emit are the receiver's lines, where asked gives each slot
-- the commands that its client's script has for it before the last sample
pub told-lines : (settings : Settings) (xs : List Sample)
    (asked : ℕ → ℕ → List TimedRequest) (clients : List Client)
    → ((k : ℕ) (client : Client) → slice_get clients k ≡ Some client → (s : ℕ)
    → asked (1 + k) s ≡ commands_to s (entries_before (length xs) (entries_of client)))
    → lines_of (bank_events_at_end settings (layout (shares_of clients)) asked xs)
    ≡ event_lines settings clients xs
unfolding bank_events_at_end event_lines for_each_client tell
told-lines settings xs asked clients own =
    all_clients settings xs asked 1 clients own

-- the commands of each slot are those that its client's script has before the last sample
abbrev pub AreAsked : List Client → (ℕ → ℕ → List TimedRequest) → List Sample → Type 0
AreAsked clients asked xs =
    (k : ℕ) (client : Client) → slice_get clients k ≡ Some client → (s : ℕ)
    → asked (1 + k) s ≡ commands_to s (entries_before (length xs) (entries_of client))

-- the same for what many samples bring, one after another
pub at_each_sample-lines : (settings : Settings)
    (asked : ℕ → ℕ → List TimedRequest) (clients : List Client) (xs ys : List Sample)
    → ((j : ℕ) → 0 < j → j ≤ length ys → AreAsked clients asked (xs ++ take j ys))
    → lines_of
    (at_each_sample (bank_events_at_end settings (layout (shares_of clients)) asked) xs ys)
    ≡ at_each_sample (event_lines settings clients) xs ys
unfolding at_each_sample
at_each_sample-lines settings asked clients xs [] own = refl
at_each_sample-lines settings asked clients xs (y ∷ ys) own =
    let tells : List Sample → List SlotEvent =
    bank_events_at_end settings (layout (shares_of clients)) asked in
    lines-append (tells (xs ++ y ∷ [])) (at_each_sample tells (xs ++ y ∷ []) ys)
    ∙ ap (λ r. r ++ lines_of (at_each_sample tells (xs ++ y ∷ []) ys))
    (told-lines settings (xs ++ y ∷ []) asked clients
    (own 1 (omega arith) (omega arith)))
    ∙ ap (λ r. event_lines settings clients (xs ++ y ∷ []) ++ r)
    (at_each_sample-lines settings asked clients (xs ++ y ∷ []) ys
    (λ j some within. rw (append_assoc xs (y ∷ []) (take j ys))
    (own (suc j) (omega arith) (omega (arith, within)))))
