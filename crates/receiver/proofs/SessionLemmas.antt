-- The clients' queues, side by side, and the bank.
use Rattle.std.proofs.Common.{◌≡◌, ℕ, zero, suc, ◌+◌, ◌<◌, ◌≤◌, List, [], ◌∷◌, ◌++◌, length, take}
use Rattle.std.proofs.Common.{drop, refl, sym, ap, ◌∙◌, subst, arith, get_or, slice_set, inl, inr}
use Rattle.std.specs.Prelude.{map, flat_map, slice_get, Option, Some, None, IfSome, IsNone, min}
use Rattle.std.specs.List.{AllByRecursion, enumerate_from}
use Rattle.std.proofs.Math.Seq.{take-append_seam}
use Rattle.arrayvec.specs.ArrayVec.{ArrayVec, with_items}
use Rattle.std.proofs.lemmas.Bool.{ne_eqb, eq-eqb}
use Rattle.definitions.specs.Samples.{Sample}
use Rattle.definitions.specs.Oscillators.{Settings}
use Rattle.definitions.specs.Scripts.{Entry}
use Rattle.definitions.specs.Texts.{for_client, at_time}
use Rattle.definitions.specs.Receiver.{Client, entries_of, entries_before, commands_to, reply_text}
use Rattle.definitions.specs.Receiver.{answer_texts, answer_lines, for_each_client, timed_texts}
use Rattle.definitions.proofs.EntryLemmas.{answers_left, answers_left-now}
use Rattle.client_commands.specs.Entries.{result_in}
use Rattle.receiver.specs.declared.queue.Queue.{Queue}
use Rattle.receiver.specs.declared.due.Due.{Due}
use Rattle.receiver.specs.Queues.{left_of, NoneDue, gap, least_gap_of, all_left, IsTaken, TakesDue}
use Rattle.receiver.specs.Sessions.{IsQueue, AreQueues, answers_waiting, with_entry, entry_now}
use Rattle.receiver.proofs.QueueLemmas.{none-waits, one-answered, at-now, later, waits-all}
use Rattle.receiver.proofs.QueueLemmas.{none-before, before-each}

-- what follows of the value that is there, if one is
pub some-then : {A : Type 0} (P Q : A → Type 0) → ((x : A) → P x → Q x) → (o : Option A)
    → IfSome o P → IfSome o Q
some-then P Q each (Some x) p = each x p
some-then P Q each None p = p

-- a value that is there
pub some-is : {A : Type 0} (x y : A) → Some x ≡ Some y → x ≡ y
some-is x y e = ap (of x) e
  where
    of : {A : Type 0} → A → Option A → A
    of d None = d
    of d (Some z) = z

pub none-some : {A : Type 0} (x : A) → None ≡ Some x → ⊥
none-some x e = let one : 1 ≡ 0 = ap how e in absurd (omega (arith, one))
  where
    how : {A : Type 0} → Option A → ℕ
    how None = 1
    how (Some x) = 0

-- ---- nothing is due

pub none-waiting : (settings : Settings) (xs : List Sample) (done : ℕ → List Entry) (b : ℕ)
    (cs : List Client) (qs : List Queue) → AreQueues xs done b cs qs
    → AllByRecursion (λ (q : Queue). NoneDue (length xs) (left_of q)) qs
    → answers_waiting settings xs done b qs ≡ []
none-waiting settings xs done b [] [] all due = refl
none-waiting settings xs done b [] (q ∷ qs) all due = absurd all
none-waiting settings xs done b (c ∷ cs) [] all due = refl
none-waiting settings xs done b (c ∷ cs) (q ∷ qs) all due =
    rw (none-waits settings c xs (done b) (left_of q) all.0 due.0)
    (none-waiting settings xs done (b + 1) cs qs all.1 due.1)

pub none-due-gap : (now : ℕ) (qs : List Queue)
    → AllByRecursion (λ (q : Queue). NoneDue now (left_of q)) qs → 0 < least_gap_of now qs
none-due-gap now [] due = omega arith
none-due-gap now (q ∷ qs) due =
    both (gap now (left_of q)) (least_gap_of now qs) (own (left_of q) due.0)
    (none-due-gap now qs due.1)
  where
    own : (es : List Entry) → NoneDue now es → 0 < gap now es
    own [] due = omega arith
    own (e ∷ es) due = omega (arith, due)

    both : (m n : ℕ) → 0 < m → 0 < n → 0 < min m n
    both m n a b = omega (arith, a, b)

-- ---- one entry is answered

not-own : (done : ℕ → List Entry) (client : ℕ) (e : Entry) (b : ℕ) → (b ≡ client → ⊥)
    → with_entry done client e b ≡ done b
not-own done client e b ne = rw (ne_eqb b client ne)

own-entry : (done : ℕ → List Entry) (client : ℕ) (e : Entry) (b : ℕ) → b ≡ client
    → with_entry done client e b ≡ done b ++ e ∷ []
own-entry done client e b is = rw (eq-eqb b client is)

others-queues : (xs : List Sample) (done : ℕ → List Entry) (client : ℕ) (e : Entry) (b : ℕ)
    (cs : List Client) (qs : List Queue) → client < b → AreQueues xs done b cs qs
    → AreQueues xs (with_entry done client e) b cs qs
others-queues xs done client e b [] [] h all = tt
others-queues xs done client e b [] (q ∷ qs) h all = absurd all
others-queues xs done client e b (c ∷ cs) [] h all = absurd all
others-queues xs done client e b (c ∷ cs) (q ∷ qs) h all = (
  subst (λ (d : List Entry). IsQueue xs c d (left_of q))
      (sym (not-own done client e b (λ same. omega (arith, same, h)))) all.0,
  others-queues xs done client e (b + 1) cs qs (omega (arith, h)) all.1,
)

others-waiting : (settings : Settings) (xs : List Sample) (done : ℕ → List Entry) (client : ℕ)
    (e : Entry) (b : ℕ) (qs : List Queue) → client < b
    → answers_waiting settings xs done b qs
    ≡ answers_waiting settings xs (with_entry done client e) b qs
others-waiting settings xs done client e b [] h = refl
others-waiting settings xs done client e b (q ∷ qs) h =
    ap (λ (d : List Entry). map (for_client b)
    (timed_texts xs (answers_left settings xs d (left_of q)))
    ++ answers_waiting settings xs done (b + 1) qs)
    (sym (not-own done client e b (λ same. omega (arith, same, h))))
    ∙ ap (λ (r : List (List ℕ)). map (for_client b)
    (timed_texts xs (answers_left settings xs (with_entry done client e b) (left_of q))) ++ r)
    (others-waiting settings xs done client e (b + 1) qs (omega (arith, h)))

pub at-least : (now b : ℕ) (qs rs : List Queue) (due : Due) → TakesDue now b qs rs due
    → b ≤ due.client
at-least now b [] rs due t = absurd t
at-least now b (q ∷ qs) [] due t = absurd t
at-least now b (q ∷ qs) (r ∷ rs) due (inl h) = omega (arith, h.0)
at-least now b (q ∷ qs) (r ∷ rs) due (inr h) = omega (arith, at-least now (b + 1) qs rs due h.2)

pub at-most : (now b : ℕ) (qs rs : List Queue) (due : Due) → TakesDue now b qs rs due
    → due.client < b + length qs
at-most now b [] rs due t = absurd t
at-most now b (q ∷ qs) [] due t = absurd t
at-most now b (q ∷ qs) (r ∷ rs) due (inl h) = omega (arith, h.0)
at-most now b (q ∷ qs) (r ∷ rs) due (inr h) = omega (arith, at-most now (b + 1) qs rs due h.2)

pub as-many : (now b : ℕ) (qs rs : List Queue) (due : Due) → TakesDue now b qs rs due
    → length rs ≡ length qs
as-many now b [] rs due t = absurd t
as-many now b (q ∷ qs) [] due t = absurd t
as-many now b (q ∷ qs) (r ∷ rs) due (inl h) = ap (λ (l : List Queue). suc (length l)) h.2
as-many now b (q ∷ qs) (r ∷ rs) due (inr h) = ap suc (as-many now (b + 1) qs rs due h.2)

-- so too where none was due
pub as-many-still : (now : ℕ) (qs rs : List Queue) (o : Option Due)
    → IfSome o (λ due. TakesDue now 1 qs rs due) → (IsNone o → rs ≡ qs) → length rs ≡ length qs
as-many-still now qs rs (Some due) t kept = as-many now 1 qs rs due t
as-many-still now qs rs None t kept = ap length (kept refl)

pub fewer-left : (now b : ℕ) (qs rs : List Queue) (due : Due) → TakesDue now b qs rs due
    → all_left rs < all_left qs
fewer-left now b [] rs due t = absurd t
fewer-left now b (q ∷ qs) [] due t = absurd t
fewer-left now b (q ∷ qs) (r ∷ rs) due (inl h) =
    let one : length (left_of q) ≡ suc (length (left_of r)) = ap length h.1.first in
    let same : all_left rs ≡ all_left qs = ap all_left h.2 in omega (arith, one, same)
fewer-left now b (q ∷ qs) (r ∷ rs) due (inr h) =
    let same : length (left_of r) ≡ length (left_of q) =
    ap (λ (x : Queue). length (left_of x)) h.1 in
    omega (arith, same, fewer-left now (b + 1) qs rs due h.2)

-- the line of the answer
abbrev pub line_due : Settings → List Sample → (ℕ → List Entry) → Due → List ℕ
line_due settings xs done due =
    for_client due.client
    (at_time (length xs) (reply_text settings xs (done due.client) (result_in due.what)))

module _ (settings : Settings) (xs : List Sample) (done : ℕ → List Entry) (due : Due) where
  now : ℕ
  now = length xs

  abbrev then : ℕ → List Entry
  then = with_entry done due.client (entry_now xs due)

  -- the entry that was taken
  taken-is : (e : Entry) → e.what ≡ result_in due.what → e.time ≡ length xs → e ≡ entry_now xs due
  taken-is e what time =
      ap (λ w. record { time = e.time; what = w }) what
      ∙ ap (λ t. record { time = t; what = result_in due.what }) time

  pub queues-then : (b : ℕ) (cs : List Client) (qs rs : List Queue) → AreQueues xs done b cs qs
      → TakesDue (length xs) b qs rs due → AreQueues xs then b cs rs
  queues-then b [] [] rs all t = absurd t
  queues-then b [] (q ∷ qs) rs all t = absurd all
  queues-then b (c ∷ cs) [] rs all t = absurd all
  queues-then b (c ∷ cs) (q ∷ qs) [] all t = absurd t
  queues-then b (c ∷ cs) (q ∷ qs) (r ∷ rs) all (inl h) =
      let own : IsQueue xs c (done b ++ h.1.entry ∷ []) (left_of r) =
      one-answered settings c xs (done b) (left_of q) all.0 h.1.entry (left_of r) h.1.first
      h.1.is_due in
      let e : h.1.entry ≡ entry_now xs due =
      taken-is h.1.entry h.1.what
      (at-now settings c xs (done b) (left_of q) all.0 h.1.entry (left_of r) h.1.first
      h.1.is_due) in
      let done_then : done b ++ h.1.entry ∷ [] ≡ then b =
      ap (λ (x : Entry). done b ++ x ∷ []) e
      ∙ sym (own-entry done due.client (entry_now xs due) b (sym h.0)) in (
        subst (λ (d : List Entry). IsQueue xs c d (left_of r)) done_then own,
        subst (λ (l : List Queue). AreQueues xs then (b + 1) cs l) (sym h.2)
            (others-queues xs done due.client (entry_now xs due) (b + 1) cs qs (omega (arith, h.0))
            all.1),
      )
  queues-then b (c ∷ cs) (q ∷ qs) (r ∷ rs) all (inr h) =
      let own : IsQueue xs c (then b) (left_of q) =
      subst (λ (d : List Entry). IsQueue xs c d (left_of q))
      (sym (not-own done due.client (entry_now xs due) b
      (λ same. omega (arith, same, at-least (length xs) (b + 1) qs rs due h.2))))
      all.0 in (
        subst (λ (x : Queue). IsQueue xs c (then b) (left_of x)) (sym h.1) own,
        queues-then (b + 1) cs qs rs all.1 h.2,
      )

  pub waiting-then : (b : ℕ) (cs : List Client) (qs rs : List Queue) → AreQueues xs done b cs qs
      → TakesDue (length xs) b qs rs due
      → answers_waiting settings xs done b qs
      ≡ line_due settings xs done due ∷ answers_waiting settings xs then b rs
  waiting-then b [] [] rs all t = absurd t
  waiting-then b [] (q ∷ qs) rs all t = absurd all
  waiting-then b (c ∷ cs) [] rs all t = absurd all
  waiting-then b (c ∷ cs) (q ∷ qs) [] all t = absurd t
  waiting-then b (c ∷ cs) (q ∷ qs) (r ∷ rs) all (inl h) =
      let at : h.1.entry.time ≡ length xs =
      at-now settings c xs (done b) (left_of q) all.0 h.1.entry (left_of r) h.1.first
      h.1.is_due in
      let e : h.1.entry ≡ entry_now xs due = taken-is h.1.entry h.1.what at in
      let first : left_of q ≡ entry_now xs due ∷ left_of r =
      h.1.first ∙ ap (λ (x : Entry). x ∷ left_of r) e in
      let one : answers_left settings xs (done b) (left_of q)
      ≡ reply_text settings xs (done b) (result_in due.what) ∷ answers_left settings xs
      (done b ++ entry_now xs due ∷ []) (left_of r) =
      ap (answers_left settings xs (done b)) first
      ∙ answers_left-now settings xs (done b) (entry_now xs due) (left_of r)
      (eq-eqb (length xs) (length xs) refl) in
      let done_then : done b ++ entry_now xs due ∷ [] ≡ then b =
      sym (own-entry done due.client (entry_now xs due) b (sym h.0)) in
      let rest : answers_waiting settings xs done (b + 1) qs
      ≡ answers_waiting settings xs then (b + 1) rs =
      others-waiting settings xs done due.client (entry_now xs due) (b + 1) qs (omega (arith, h.0))
      ∙ ap (answers_waiting settings xs then (b + 1)) (sym h.2) in
      ap (λ (l : List (List ℕ)). map (for_client b) (timed_texts xs l)
      ++ answers_waiting settings xs done (b + 1) qs) one
      ∙ ap (λ (k : ℕ). for_client k
      (at_time (length xs) (reply_text settings xs (done k) (result_in due.what)))
      ∷ (map (for_client b)
      (timed_texts xs (answers_left settings xs (done b ++ entry_now xs due ∷ [])
      (left_of r))) ++ answers_waiting settings xs done (b + 1) qs)) (sym h.0)
      ∙ ap (λ (d : List Entry). line_due settings xs done
      due ∷ (map (for_client b) (timed_texts xs (answers_left settings xs d (left_of r)))
      ++ answers_waiting settings xs done (b + 1) qs)) done_then
      ∙ ap (λ (l : List (List ℕ)). line_due settings xs done
      due ∷ (map (for_client b) (timed_texts xs (answers_left settings xs (then b) (left_of r)))
      ++ l)) rest
  waiting-then b (c ∷ cs) (q ∷ qs) (r ∷ rs) all (inr h) =
      let same : then b ≡ done b =
      not-own done due.client (entry_now xs due) b
      (λ e. omega (arith, e, at-least (length xs) (b + 1) qs rs due h.2)) in
      let before : answers_left settings xs (done b) (left_of q) ≡ [] =
      none-waits settings c xs (done b) (left_of q) all.0 h.0 in
      let after : answers_left settings xs (then b) (left_of r) ≡ [] =
      ap (λ (d : List Entry). answers_left settings xs d (left_of r)) same
      ∙ ap (λ (x : Queue). answers_left settings xs (done b) (left_of x)) h.1 ∙ before in
      ap (λ (l : List (List ℕ)). map (for_client b) (timed_texts xs l)
      ++ answers_waiting settings xs done (b + 1) qs) before
      ∙ waiting-then (b + 1) cs qs rs all.1 h.2
      ∙ ap (λ (l : List (List ℕ)). line_due settings xs done
      due ∷ (map (for_client b) (timed_texts xs l)
      ++ answers_waiting settings xs then (b + 1) rs)) (sym after)

-- ---- samples come

free-first : (n now : ℕ) (q : Queue) (qs : List Queue) → n ≤ least_gap_of now (q ∷ qs)
    → (n ≤ gap now (left_of q)) × (n ≤ least_gap_of now qs)
free-first n now q qs h = (omega (arith, h), omega (arith, h))

module _ (settings : Settings) (xs ys : List Sample) (done : ℕ → List Entry)
    (some : 0 < length ys) where
  pub queues-later : (b : ℕ) (cs : List Client) (qs : List Queue) → AreQueues xs done b cs qs
      → length ys ≤ least_gap_of (length xs) qs → AreQueues (xs ++ ys) done b cs qs
  queues-later b [] [] all free = tt
  queues-later b [] (q ∷ qs) all free = absurd all
  queues-later b (c ∷ cs) [] all free = absurd all
  queues-later b (c ∷ cs) (q ∷ qs) all free =
      let f = free-first (length ys) (length xs) q qs free in (
        later settings c xs (done b) (left_of q) all.0 ys some f.0,
        queues-later (b + 1) cs qs all.1 f.1,
      )

  abbrev answers_from : ℕ → List Client → List Sample → List (List ℕ)
  answers_from b cs zs =
      flat_map (λ (p : ℕ × Client). map (for_client p.0)
      (timed_texts zs (answer_texts settings p.1 zs))) (enumerate_from b cs)

  waiting-from : (b : ℕ) (cs : List Client) (qs : List Queue) → AreQueues xs done b cs qs
      → length ys ≤ least_gap_of (length xs) qs
      → answers_from b cs (xs ++ ys) ≡ answers_waiting settings (xs ++ ys) done b qs
  waiting-from b [] [] all free = refl
  waiting-from b [] (q ∷ qs) all free = absurd all
  waiting-from b (c ∷ cs) [] all free = absurd all
  waiting-from b (c ∷ cs) (q ∷ qs) all free =
      let f = free-first (length ys) (length xs) q qs free in
      ap (λ (l : List (List ℕ)). map (for_client b) (timed_texts (xs ++ ys) l)
      ++ answers_from (b + 1) cs (xs ++ ys))
      (sym (waits-all settings c xs (done b) (left_of q) all.0 ys some f.0))
      ∙ ap (λ (r : List (List ℕ)). map (for_client b)
      (timed_texts (xs ++ ys) (answers_left settings (xs ++ ys) (done b) (left_of q))) ++ r)
      (waiting-from (b + 1) cs qs all.1 f.1)

  pub waiting-later : (cs : List Client) (qs : List Queue) → AreQueues xs done 1 cs qs
      → length ys ≤ least_gap_of (length xs) qs
      → answer_lines settings cs (xs ++ ys) ≡ answers_waiting settings (xs ++ ys) done 1 qs
  unfolding answer_lines for_each_client
  waiting-later cs qs all free = waiting-from 1 cs qs all free

  module _ (zs : List Sample) (more : 0 < length zs) where
    quiet-from : length zs < length ys → (b : ℕ) (cs : List Client) (qs : List Queue)
        → AreQueues xs done b cs qs → length ys ≤ least_gap_of (length xs) qs
        → answers_from b cs (xs ++ zs) ≡ []
    quiet-from fewer b [] qs all free = refl
    quiet-from fewer b (c ∷ cs) [] all free = absurd all
    quiet-from fewer b (c ∷ cs) (q ∷ qs) all free =
        let f = free-first (length ys) (length xs) q qs free in
        ap (λ (l : List (List ℕ)). map (for_client b) (timed_texts (xs ++ zs) l)
        ++ answers_from (b + 1) cs (xs ++ zs))
        (none-before settings c xs (done b) (left_of q) all.0 ys some f.0 zs more fewer)
        ∙ quiet-from fewer (b + 1) cs qs all.1 f.1

    pub quiet : length zs < length ys → (cs : List Client) (qs : List Queue)
        → AreQueues xs done 1 cs qs → length ys ≤ least_gap_of (length xs) qs
        → answer_lines settings cs (xs ++ zs) ≡ []
    unfolding answer_lines for_each_client
    quiet fewer cs qs all free = quiet-from fewer 1 cs qs all free

    pub asked-each : length zs ≤ length ys → (b : ℕ) (cs : List Client) (qs : List Queue)
        → AreQueues xs done b cs qs → length ys ≤ least_gap_of (length xs) qs
        → (k : ℕ) (client : Client) → slice_get cs k ≡ Some client → (s : ℕ)
        → commands_to s (done (b + k))
        ≡ commands_to s (entries_before (length (xs ++ zs)) (entries_of client))
    asked-each within b [] qs all free k client found s = absurd (none-some client found)
    asked-each within b (c ∷ cs) [] all free k client found s = absurd all
    asked-each within b (c ∷ cs) (q ∷ qs) all free zero client found s =
        let f = free-first (length ys) (length xs) q qs free in
        let z : b + 0 ≡ b = omega arith in
        let is : c ≡ client = some-is c client found in
        ap (λ (k : ℕ). commands_to s (done k)) z
        ∙ ap (commands_to s)
        (sym (before-each settings c xs (done b) (left_of q) all.0 ys some f.0 zs more
        within))
        ∙ ap (λ (x : Client). commands_to s
        (entries_before (length (xs ++ zs)) (entries_of x))) is
    asked-each within b (c ∷ cs) (q ∷ qs) all free (suc k) client found s =
        let f = free-first (length ys) (length xs) q qs free in
        let e : b + suc k ≡ b + 1 + k = omega arith in
        ap (λ (j : ℕ). commands_to s (done j)) e
        ∙ asked-each within (b + 1) cs qs all.1 f.1 k client found s

pub same-number : (xs : List Sample) (done : ℕ → List Entry) (b : ℕ) (cs : List Client)
    (qs : List Queue) → AreQueues xs done b cs qs → length cs ≡ length qs
same-number xs done b [] [] all = refl
same-number xs done b [] (q ∷ qs) all = absurd all
same-number xs done b (c ∷ cs) [] all = absurd all
same-number xs done b (c ∷ cs) (q ∷ qs) all = ap suc (same-number xs done (b + 1) cs qs all.1)

-- ---- loops over the queues

pub least-small : (now : ℕ) (qs : List Queue) → least_gap_of now qs ≤ 18446744073709551615
least-small now [] = omega arith
least-small now (q ∷ qs) = omega (arith, least-small now qs)

pub takes-at : (now b : ℕ) (qs : List Queue) (i : ℕ) (d r : Queue) (due : Due) → i < length qs
    → AllByRecursion (λ (q : Queue). NoneDue now (left_of q)) (take i qs)
    → IsTaken now (get_or qs i d) r due → due.client ≡ b + i
    → TakesDue now b qs (slice_set qs i r) due
takes-at now b [] i d r due h early taken is = absurd (omega arith)
takes-at now b (q ∷ qs) zero d r due h early taken is = inl (is ∙ (omega arith), taken, refl)
takes-at now b (q ∷ qs) (suc i) d r due h early taken is =
    inr (
      early.0,
      refl,
      takes-at now (b + 1) qs i d r due (omega (arith, h)) early.1 taken (is ∙ (omega arith)),
    )

-- what an array's elements become by a write to them as a slice
pub written-back : (v : ArrayVec Queue) (new : List Queue) → length new ≡ length v.items
    → (with_items v new).items ≡ new
written-back v new e = rw (sym e) (take-append_seam new (drop (length new) v.items))

-- what taking an entry promises, of the list that the queues were lent from
pub record Took (v : ArrayVec Queue) (new : List Queue) (now : ℕ) (o : Option Due) : Type 0 where
  pub some : IfSome o (λ due. TakesDue now 1 v.items new due)
  pub none : IsNone o → AllByRecursion (λ queue. NoneDue now (left_of queue)) v.items
  pub kept : IsNone o → new ≡ v.items
  pub whole : (with_items v new).items ≡ new

pub took : (v : ArrayVec Queue) (lent new : List Queue) (now : ℕ) (o : Option Due)
    → lent ≡ v.items → IfSome o (λ due. TakesDue now 1 lent new due)
    → (IsNone o → AllByRecursion (λ queue. NoneDue now (left_of queue)) lent)
    → (IsNone o → new ≡ lent) → Took v new now o
took v lent new now o e some none kept = record {
  some = rw e at some;
  none = λ n. rw e at (none n);
  kept = λ n. kept n ∙ e;
  whole = written-back v new (as-many-still now lent new o some kept ∙ ap length e);
}
