-- Before the first sample, and after the last.
use Rattle.std.proofs.Common.{◌≡◌, ℕ, suc, ◌+◌, ◌-◌, ◌<◌, ◌≤◌, List, [], ◌∷◌, ◌++◌, length, drop}
use Rattle.std.proofs.Common.{refl, sym, ap, ◌∙◌, append-nil, arith, get_or}
use Rattle.std.specs.Prelude.{false, map, flat_map, nat_lt, codes}
use Rattle.std.specs.List.{range_with_len, enumerate_from}
use Rattle.std.proofs.lemmas.Bool.{le-ltb}
use Rattle.definitions.specs.Samples.{Sample}
use Rattle.definitions.specs.Oscillators.{Settings}
use Rattle.definitions.specs.Scripts.{Entry}
use Rattle.definitions.specs.Lines.{as_bytes, ended_line}
use Rattle.definitions.specs.Texts.{for_client, at_time, event_text}
use Rattle.definitions.specs.Events.{events_at_end, life_events}
use Rattle.definitions.specs.Lives.{life_now, life_of}
use Rattle.definitions.specs.Receiver.{Client, entries_of, entries_before, commands_to, event_texts}
use Rattle.definitions.specs.Receiver.{slot_event_texts, event_lines, answer_texts, answer_lines}
use Rattle.definitions.specs.Receiver.{for_each_client, body_lines, lines_at, at_each_time}
use Rattle.definitions.specs.Receiver.{timed_texts, end_lines, end_line}
use Rattle.definitions.proofs.EntryLemmas.{NoneBefore, answers_left, answered-left}
use Rattle.receiver.specs.LastLines.{ends}
use Rattle.receiver.specs.declared.queue.Queue.{Queue}
use Rattle.receiver.specs.Queues.{left_of}
use Rattle.receiver.specs.Sessions.{AreQueues, answers_waiting}

-- ---- before the first sample

nothing-before : (entries : List Entry) → entries_before 0 entries ≡ []
nothing-before [] = refl
nothing-before (e ∷ entries) =
    let f : nat_lt e.time 0 ≡ false = le-ltb e.time 0 (omega arith) in rw f (nothing-before entries)

silent : (settings : Settings) (slot : ℕ) → events_at_end settings [] (commands_to slot []) ≡ []
unfolding life_now life_of commands_to life_events events_at_end
silent settings slot = refl

slot-silent : (settings : Settings) (entries : List Entry) (slot : ℕ)
    → slot_event_texts settings [] entries slot ≡ []
slot-silent settings entries slot =
    ap (λ (es : List Entry). map (event_text slot)
    (events_at_end settings [] (commands_to slot es)))
    (nothing-before entries)
    ∙ ap (λ es. map (event_text slot) es) (silent settings slot)

slots-silent : (settings : Settings) (entries : List Entry) (slots : List ℕ)
    → flat_map (slot_event_texts settings [] entries) slots ≡ []
slots-silent settings entries [] = refl
slots-silent settings entries (slot ∷ slots) =
    rw (slot-silent settings entries slot) (slots-silent settings entries slots)

clients-silent : (settings : Settings) (b : ℕ) (clients : List Client)
    → flat_map (λ (p : ℕ × Client). map (for_client p.0)
    (timed_texts [] (event_texts settings p.1 []))) (enumerate_from b clients) ≡ []
unfolding event_texts
clients-silent settings b [] = refl
clients-silent settings b (client ∷ clients) =
    rw (slots-silent settings (entries_of client) (range_with_len 0 client.slots))
    (clients-silent settings (b + 1) clients)

pub first-lines : (settings : Settings) (clients : List Client)
    → body_lines settings [] clients ≡ answer_lines settings clients []
unfolding body_lines at_each_time lines_at event_lines for_each_client
first-lines settings clients =
    append-nil (lines_at settings clients [])
    ∙ ap (λ (l : List (List ℕ)). l ++ answer_lines settings clients [])
    (clients-silent settings 1 clients)

abbrev none_done : ℕ → List Entry
none_done client = []

from-start : (left : List Entry) → NoneBefore 0 left
from-start [] = tt
from-start (e ∷ left) = (omega arith, from-start left)

first-left : (client : Client) (clients : List Client) (q : Queue) (qs : List Queue)
    → map left_of (q ∷ qs) ≡ map entries_of (client ∷ clients) → left_of q ≡ entries_of client
first-left client clients q qs e = ap (λ (l : List (List Entry)). get_or l 0 []) e

pub queues-open : (b : ℕ) (clients : List Client) (qs : List Queue)
    → map left_of qs ≡ map entries_of clients → AreQueues [] (λ client. []) b clients qs
queues-open b [] [] e = tt
queues-open b [] (q ∷ qs) e =
    let one : suc (length (map left_of qs)) ≡ 0 = ap length e in absurd (omega (arith, one))
queues-open b (client ∷ clients) [] e =
    let one : 0 ≡ suc (length (map entries_of clients)) = ap length e in absurd (omega (arith, one))
queues-open b (client ∷ clients) (q ∷ qs) e = (
  record {
    all = sym (first-left client clients q qs e);
    past = tt;
    to_come = from-start (left_of q);
  },
  queues-open (b + 1) clients qs (ap (λ (l : List (List Entry)). drop 1 l) e),
)

waiting-from : (settings : Settings) (b : ℕ) (clients : List Client) (qs : List Queue)
    → map left_of qs ≡ map entries_of clients
    → flat_map (λ (p : ℕ × Client). map (for_client p.0)
    (timed_texts [] (answer_texts settings p.1 []))) (enumerate_from b clients)
    ≡ answers_waiting settings [] (λ client. []) b qs
waiting-from settings b [] [] e = refl
waiting-from settings b [] (q ∷ qs) e =
    let one : suc (length (map left_of qs)) ≡ 0 = ap length e in absurd (omega (arith, one))
waiting-from settings b (client ∷ clients) [] e =
    let one : 0 ≡ suc (length (map entries_of clients)) = ap length e in absurd (omega (arith, one))
waiting-from settings b (client ∷ clients) (q ∷ qs) e =
    let own : answer_texts settings client [] ≡ answers_left settings [] [] (left_of q) =
    answered-left settings client []
    ∙ ap (answers_left settings [] []) (sym (first-left client clients q qs e)) in
    let others : List (List ℕ) =
    flat_map (λ (p : ℕ × Client). map (for_client p.0)
    (timed_texts [] (answer_texts settings p.1 []))) (enumerate_from (b + 1) clients) in
    ap (λ (l : List (List ℕ)). map (for_client b) (timed_texts [] l) ++ others) own
    ∙ ap (λ (r : List (List ℕ)). map (for_client b)
    (timed_texts [] (answers_left settings [] [] (left_of q))) ++ r)
    (waiting-from settings (b + 1) clients qs (ap (λ (l : List (List Entry)). drop 1 l) e))

pub waiting-open : (settings : Settings) (clients : List Client) (qs : List Queue)
    → map left_of qs ≡ map entries_of clients
    → answer_lines settings clients [] ≡ answers_waiting settings [] (λ client. []) 1 qs
unfolding answer_lines for_each_client
waiting-open settings clients qs e = waiting-from settings 1 clients qs e

-- ---- after the last sample

ends-from : (time b : ℕ) (xs : List Sample) (clients : List Client) → length xs ≡ time
    → flat_map (λ (p : ℕ × Client). map (for_client p.0) (end_line xs ∷ []))
    (enumerate_from b clients) ≡ ends time b (length clients)
ends-from time b xs [] now = refl
ends-from time b xs (client ∷ clients) now =
    ap (λ (t : ℕ). for_client b (at_time t (codes "end")) ∷ flat_map
    (λ (p : ℕ × Client). map (for_client p.0) (end_line xs ∷ []))
    (enumerate_from (b + 1) clients)) now
    ∙ ap (λ (l : List (List ℕ)). for_client b (at_time time (codes "end")) ∷ l)
    (ends-from time (b + 1) xs clients now)

pub ends-are : (time : ℕ) (xs : List Sample) (clients : List Client) → length xs ≡ time
    → end_lines xs clients ≡ ends time 1 (length clients)
unfolding end_lines for_each_client
ends-are time xs clients now = ends-from time 1 xs clients now

pub ends-next : (time k n : ℕ) → k < n
    → as_bytes (ends time (k + 1) (n - k))
    ≡ ended_line (for_client (k + 1) (at_time time (codes "end")))
    ++ as_bytes (ends time (k + 1 + 1) (n - (k + 1)))
unfolding as_bytes
ends-next time k n h =
    let e : n - k ≡ suc (n - (k + 1)) = omega (arith, h) in
    ap (λ (m : ℕ). as_bytes (ends time (k + 1) m)) e

pub ends-done : (time k n : ℕ) → n ≤ k → as_bytes (ends time (k + 1) (n - k)) ≡ []
unfolding as_bytes
ends-done time k n h =
    let e : n - k ≡ 0 = omega (arith, h) in ap (λ (m : ℕ). as_bytes (ends time (k + 1) m)) e
