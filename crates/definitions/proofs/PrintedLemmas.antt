-- Where each line of the whole text comes from.
use Rattle.std.proofs.Common.{inl, inr, ◌≡◌, ℕ, zero, suc, ◌+◌, ◌<◌, ◌≤◌, List, [], ◌∷◌, ◌++◌}
use Rattle.std.proofs.Common.{length, take, map, refl, sym, ap, ◌∙◌, arith}
use Rattle.std.specs.Prelude.{Bool, true, false, nat_eq, flat_map, slice_get, cond, Some}
use Rattle.std.specs.List.{AllByRecursion, range_with_len, enumerate_from}
use Rattle.std.proofs.lemmas.Bool.{eqb-true}
use Rattle.std.proofs.lemmas.List.{length-take-le}
use Rattle.definitions.specs.Samples.{Sample}
use Rattle.definitions.specs.Oscillators.{Settings}
use Rattle.definitions.specs.Scripts.{Entry}
use Rattle.definitions.specs.Events.{Event, events_at_end}
use Rattle.definitions.specs.Texts.{event_text, at_time, for_client}
use Rattle.definitions.specs.Receiver.{Client, entries_of, event_texts, slot_event_texts}
use Rattle.definitions.specs.Receiver.{answer_texts, entry_answer_texts, reply_text, at_each_time}
use Rattle.definitions.specs.Receiver.{timed_texts, for_each_client, lines_at, event_lines}
use Rattle.definitions.specs.Receiver.{answer_lines, body_lines, end_lines, end_line, full_lines}
use Rattle.definitions.specs.PrintedLaws.{commands_before, Emits, IsOneOf, LinesComeFromEvents}
use Rattle.definitions.proofs.EventLemmas.{all-at, events-right}
use Rattle.definitions.proofs.TextLemmas.{lines_of-full}

-- ---- lists
module _ {A : Type 0} (P : A → Type 0) where
  all-append : (xs ys : List A) → AllByRecursion P xs → AllByRecursion P ys
      → AllByRecursion P (xs ++ ys)
  all-append [] ys hx hy = hy
  all-append (x ∷ xs) ys hx hy = (hx.0, all-append xs ys hx.1 hy)

  all-map : {B : Type 0} (f : B → A) (xs : List B) → AllByRecursion (λ x. P (f x)) xs
      → AllByRecursion P (map f xs)
  all-map f [] h = tt
  all-map f (x ∷ xs) h = (h.0, all-map f xs h.1)

  all-range : (f : ℕ → List A) (a n : ℕ) → ((t : ℕ) → t < a + n → AllByRecursion P (f t))
      → AllByRecursion P (flat_map f (range_with_len a n))
  all-range f a zero h = tt
  all-range f a (suc n) h =
      all-append (f a) (flat_map f (range_with_len (a + 1) n)) (h a (omega arith))
      (all-range f (a + 1) n (λ t below. h t (omega (arith, below))))

  all-numbered : {B : Type 0} (f : ℕ × B → List A) (b : ℕ) (xs : List B)
      → ((k : ℕ) (x : B) → slice_get xs k ≡ Some x → AllByRecursion P (f (b + k, x)))
      → AllByRecursion P (flat_map f (enumerate_from b xs))
  all-numbered f b [] h = tt
  all-numbered f b (x ∷ xs) h =
      let z : b + 0 ≡ b = omega arith in
      all-append (f (b, x)) (flat_map f (enumerate_from (b + 1) xs)) (rw z at (h 0 x refl))
      (all-numbered f (b + 1) xs
      (λ k y there. let s : b + suc k ≡ b + 1 + k = omega arith in
      rw s at (h (suc k) y there)))

  all-found : (xs : List A) → ((i : ℕ) (x : A) → slice_get xs i ≡ Some x → P x)
      → AllByRecursion P xs
  all-found [] h = tt
  all-found (x ∷ xs) h = (h 0 x refl, all-found xs (λ i y there. h (suc i) y there))

below-end : {A : Type 0} (xs : List A) (k : ℕ) (x : A) → slice_get xs k ≡ Some x → k < length xs
below-end [] k x e = cc
below-end (y ∷ ys) zero x e = omega arith
below-end (y ∷ ys) (suc k) x e = omega (arith, below-end ys k x e)

-- ---- the lines at one time
module _ (settings : Settings) (clients : List Client) (xs : List Sample) where
  One : List ℕ → Type 0
  One line = IsOneOf settings clients xs line

  -- the lines that belong to a time
  Now : List Sample → Type 0
  Now zs = (t : ℕ) × (t ≤ length xs) × (zs ≡ take t xs) × (length zs ≡ t)

  event-line : (zs : List Sample) (k slot i : ℕ) (client : Client) (event : Event) → Now zs
      → slice_get clients k ≡ Some client → slot < client.slots
      → slice_get (events_at_end settings zs (commands_before client slot zs)) i
      ≡ Some event
      → One (for_client (1 + k) (at_time (length zs) (event_text slot event)))
  unfolding One Now
  event-line zs k slot i client event now is_client is_slot there =
      let tells : Emits settings clients zs k slot client event = record {
        is_client = is_client;
        is_slot = is_slot;
        is_emitted = (i, there);
        is_right = events-right settings zs (commands_before client slot zs) i event there;
      } in
      inl (
        event,
        (
          now.0,
          k,
          slot,
          client,
          now.1,
          rw now.2 at tells,
          ap (λ n. for_client (1 + k) (at_time n (event_text slot event))) now.3,
        ),
      )

  told-ones : (zs : List Sample) (k : ℕ) (client : Client) → Now zs
      → slice_get clients k ≡ Some client
      → AllByRecursion One
      (map (for_client (1 + k)) (timed_texts zs (event_texts settings client zs)))
  unfolding event_texts
  told-ones zs k client now is_client =
      all-map One (for_client (1 + k)) (timed_texts zs (event_texts settings client zs))
      (all-map (λ l. One (for_client (1 + k) l)) (at_time (length zs))
      (event_texts settings client zs)
      (all-range (λ l. One (for_client (1 + k) (at_time (length zs) l)))
      (slot_event_texts settings zs (entries_of client)) 0 client.slots
      (λ slot below. all-map (λ l. One (for_client (1 + k) (at_time (length zs) l)))
      (event_text slot) _
      (all-found (λ e. One (for_client (1 + k) (at_time (length zs) (event_text slot e))))
      (events_at_end settings zs (commands_before client slot zs))
      (λ i e there. event-line zs k slot i client e now is_client (omega (arith, below)) there)))))

  answer-line : (zs : List Sample) (k i : ℕ) (client : Client) (entry : Entry) → Now zs
      → slice_get clients k ≡ Some client → slice_get (entries_of client) i ≡ Some entry
      → (b : Bool) → nat_eq entry.time (length zs) ≡ b
      → AllByRecursion (λ l. One (for_client (1 + k) (at_time (length zs) l)))
      (cond b (reply_text settings zs (take i (entries_of client)) entry.what ∷ []) [])
  unfolding One Now
  answer-line zs k i client entry now is_client there false e = tt
  answer-line zs k i client entry now is_client there true e =
      let same : length zs ≡ entry.time = sym (eqb-true entry.time (length zs) e) in
      let time : now.0 ≡ entry.time = sym now.3 ∙ same in
      let samples : zs ≡ take entry.time xs = now.2 ∙ ap (λ t. take t xs) time in
      let within : entry.time ≤ length xs = omega (arith, now.1, time) in (
        inr (inl (
          k,
          i,
          client,
          entry,
          is_client,
          there,
          within,
          ap (λ n. for_client (1 + k)
              (at_time n (reply_text settings zs (take i (entries_of client)) entry.what)))
              same
              ∙ ap (λ ys. for_client (1 + k)
              (at_time entry.time
              (reply_text settings ys (take i (entries_of client)) entry.what)))
              samples,
        )),
        tt,
      )

  answered-ones : (zs : List Sample) (k : ℕ) (client : Client) → Now zs
      → slice_get clients k ≡ Some client
      → AllByRecursion One
      (map (for_client (1 + k)) (timed_texts zs (answer_texts settings client zs)))
  unfolding answer_texts
  answered-ones zs k client now is_client =
      all-map One (for_client (1 + k)) (timed_texts zs (answer_texts settings client zs))
      (all-map (λ l. One (for_client (1 + k) l)) (at_time (length zs))
      (answer_texts settings client zs)
      (all-numbered (λ l. One (for_client (1 + k) (at_time (length zs) l)))
      (entry_answer_texts settings zs (entries_of client)) 0 (entries_of client)
      (λ i entry there. let z : 0 + i ≡ i = omega arith in
      rw z (answer-line zs k i client entry now is_client there (nat_eq entry.time (length zs))
      refl))))

  at-ones : (zs : List Sample) → Now zs → AllByRecursion One (lines_at settings clients zs)
  unfolding lines_at event_lines answer_lines for_each_client
  at-ones zs now =
      all-append One (event_lines settings clients zs)
      (answer_lines settings clients zs)
      (all-numbered One
      (λ (p : ℕ × Client). map (for_client p.0)
      (timed_texts zs (event_texts settings p.1 zs))) 1 clients
      (λ k client is_client. told-ones zs k client now is_client))
      (all-numbered One
      (λ (p : ℕ × Client). map (for_client p.0)
      (timed_texts zs (answer_texts settings p.1 zs))) 1 clients
      (λ k client is_client. answered-ones zs k client now is_client))

  body-ones : AllByRecursion One (body_lines settings xs clients)
  unfolding body_lines at_each_time Now
  body-ones =
      all-range One (λ t. lines_at settings clients (take t xs)) 0 (length xs + 1)
      (λ t below. let within : t ≤ length xs = omega (arith, below) in
      at-ones (take t xs) (t, within, refl, length-take-le t xs within))

  end-ones : AllByRecursion One (end_lines xs clients)
  unfolding end_lines for_each_client One
  end-ones =
      all-numbered One (λ (p : ℕ × Client). map (for_client p.0) (end_line xs ∷ [])) 1 clients
      (λ k client is_client. (inr (inr (k, below-end clients k client is_client, refl)), tt))

  full-ones : AllByRecursion One (full_lines settings xs clients)
  unfolding full_lines
  full-ones =
      all-append One (body_lines settings xs clients) (end_lines xs clients) body-ones
      end-ones

pub lines-come : LinesComeFromEvents
unfolding One
lines-come settings clients xs i line there =
    all-at (λ l. IsOneOf settings clients xs l) (full_lines settings xs clients)
    (full-ones settings clients xs) i line
    (ap (λ ls. slice_get ls i) (sym (lines_of-full settings xs clients)) ∙ there)
