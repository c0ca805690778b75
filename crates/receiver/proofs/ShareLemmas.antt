-- A script asks nothing of a slot past its client's share.
use Rattle.std.proofs.Common.{◌≡◌, ◌≤◌, ◌<◌, ℕ, zero, suc, ◌+◌, ◌-◌, List, [], ◌∷◌, ◌++◌}
use Rattle.std.proofs.Common.{length, take, drop, get_or, refl, sym, ap, ◌∙◌, arith, rules}
use Rattle.std.proofs.Common.{Bool, true, false, inl, inr}
use Rattle.std.specs.Prelude.{ℤ, pos, negsuc, int_le, ◌&&◌, if◌then◌else◌, Option, Some, None}
use Rattle.std.specs.Prelude.{Result, Ok, Err, IfOk, nat_lt, nat_le, not, map, ◌==◌}
use Rattle.std.specs.Prelude.{IfSome, IsNone}
use Rattle.std.specs.List.{AllByRecursion, list_all}
use Rattle.std.proofs.lemmas.Bool.{and_parts, leb-true, ltb-true, lt-ltb}
use Rattle.std.proofs.lemmas.Int.{ints}
use Rattle.definitions.specs.Sums.{natural}
use Rattle.definitions.specs.Commands.{Command}
use Rattle.definitions.specs.Scripts.{Verb, Range, Entry, up_to, value_in, with_value, values_in}
use Rattle.definitions.specs.Scripts.{signed_number_in, meant, command_with, command_in, entry_at}
use Rattle.definitions.specs.Scripts.{entry_of_words, entry_of, entries_after, last_time, script}
use Rattle.definitions.specs.Scripts.{is_printable, time_in}
use Rattle.definitions.specs.Lines.{words_of, lines_of}
use Rattle.definitions.specs.Receiver.{Client, entries_of}
use Rattle.definitions.specs.Runs.{is_share}
use Rattle.slot_protocol.specs.declared.command.Command.{Command as AskedCommand}
use Rattle.client_commands.specs.declared.refusal.LineRefusal.{LineRefusal}
use Rattle.slot_protocol.specs.Commands.{slot_of}
use Rattle.client_commands.specs.Entries.{result_in}
use Rattle.receiver.specs.declared.queue.Queue.{Queue}
use Rattle.receiver.specs.declared.due.Due.{Due}
use Rattle.receiver.specs.Clients.{client_with, clients_with}
use Rattle.receiver.specs.Queues.{left_of, asks_in_share, are_in_shares, TakesDue}
use Rattle.receiver.proofs.SessionLemmas.{at-least}

-- an entry asks nothing of a slot past a share
abbrev IsInShare : ℕ → Entry → Type 0
IsInShare share e = IfOk e.what (λ command. command.slot < share)

abbrev is_in_share : ℕ → Entry → Bool
is_in_share share e = asks_in_share share e.what

-- entries that ask nothing of other slots, by the test of each
all-tested : (share : ℕ) (entries : List Entry) → AllByRecursion (IsInShare share) entries
    → list_all (is_in_share share) entries ≡ true
all-tested share [] all = refl
all-tested share (e ∷ entries) all =
    rw (tested e.what all.0, all-tested share entries all.1) refl
  where
    tested : (what : Result Command ℕ) → IfOk what (λ command. command.slot < share)
        → asks_in_share share what ≡ true
    tested (Ok command) h = lt-ltb command.slot share h
    tested (Err refusal) h = refl

all-append : {A : Type 0} (P : A → Type 0) (xs ys : List A) → AllByRecursion P xs
    → AllByRecursion P ys → AllByRecursion P (xs ++ ys)
all-append P [] ys a b = b
all-append P (x ∷ xs) ys a b = (a.0, all-append P xs ys a.1 b)

module _ (slots : ℕ) (some : 1 ≤ slots) where
  -- values the first of which names a slot of the share
  abbrev FirstIsIn : List ℤ → Type 0
  FirstIsIn values = natural (get_or values 0 (pos 0)) < slots

  abbrev AsksInShare : Command → Type 0
  AsksInShare command = command.slot < slots

  below : (v : ℤ) → int_le v (pos (slots - 1)) ≡ true → natural v < slots
  below (pos n) h = let le : n ≤ slots - 1 = search (rules, arith, ints) in omega (arith, some, le)
  below (negsuc n) h = omega (arith, some)

  value-in : (value : Option ℤ) (others : Result (List ℤ) ℕ)
      → IfOk (value_in (up_to 0 (slots - 1)) value others) FirstIsIn
  value-in None others = tt
  value-in (Some v) others =
      by_test (int_le (pos 0) v) (int_le v (pos (slots - 1))) refl others
    where
      by_test : (low high : Bool) → int_le v (pos (slots - 1)) ≡ high
          → (os : Result (List ℤ) ℕ)
          → IfOk (if low && high then with_value v os else Err 8) FirstIsIn
      by_test true true h (Ok values) = below v h
      by_test true true h (Err refusal) = tt
      by_test true false h os = tt
      by_test false high h os = tt

  values-in : (ranges : List Range) (words : List (List ℕ))
      → IfOk (values_in (up_to 0 (slots - 1) ∷ ranges) words) FirstIsIn
  unfolding values_in
  values-in ranges [] = omega (arith, some)
  values-in ranges (word ∷ words) = value-in (signed_number_in word) (values_in ranges words)

  meant-in : (verb : Verb) (values : Result (List ℤ) ℕ) → IfOk values FirstIsIn
      → IfOk (meant verb values) AsksInShare
  meant-in verb (Ok []) h = tt
  meant-in verb (Ok (slot ∷ values)) h = h
  meant-in verb (Err refusal) h = tt

  if-ok : (test : Bool) (asked : Result Command ℕ) (refusal : ℕ) → IfOk asked AsksInShare
      → IfOk (if test then asked else Err refusal) AsksInShare
  if-ok true asked refusal h = h
  if-ok false asked refusal h = tt

  command-with : (verb : Option Verb) (words : List (List ℕ))
      → IfOk (command_with slots verb words) AsksInShare
  command-with None words = tt
  command-with (Some verb) words =
      if-ok (length words == length verb.ranges + 1)
      (meant verb (values_in (up_to 0 (slots - 1) ∷ verb.ranges) words)) 6
      (meant-in verb _ (values-in verb.ranges words))

  command-in : (known : List Verb) (words : List (List ℕ))
      → IfOk (command_in known slots words) AsksInShare
  command-in known [] = tt
  command-in known (name ∷ words) = command-with _ words

  entry-at : (known : List Verb) (before : ℕ) (time : Option ℕ) (words : List (List ℕ))
      → IsInShare slots (entry_at known slots before time words)
  entry-at known before None words = tt
  entry-at known before (Some time) words = by_test (nat_lt time before)
    where
      by_test : (early : Bool) → IsInShare slots
          (if early then record { time = before; what = Err 4 }
          else record { time = time; what = command_in known slots words })
      by_test true = tt
      by_test false = command-in known words

  entry-of-words : (known : List Verb) (before : ℕ) (words : List (List ℕ))
      → AllByRecursion (IsInShare slots) (entry_of_words known slots before words)
  entry-of-words known before [] = tt
  entry-of-words known before (word ∷ words) = (entry-at known before (time_in word) words, tt)

  entry-of : (known : List Verb) (before : ℕ) (line : List ℕ)
      → AllByRecursion (IsInShare slots) (entry_of known slots before line)
  unfolding entry_of
  entry-of known before line =
      by_test (nat_lt 80 (length line)) (not (list_all is_printable line))
    where
      by_test : (long odd : Bool) → AllByRecursion (IsInShare slots)
          (if long then record { time = before; what = Err 1 } ∷ []
          else if odd then record { time = before; what = Err 2 } ∷ []
          else entry_of_words known slots before (words_of line))
      by_test true odd = (tt, tt)
      by_test false true = (tt, tt)
      by_test false false = entry-of-words known before (words_of line)

  entries-after : (known : List Verb) (before : ℕ) (lines : List (List ℕ))
      → AllByRecursion (IsInShare slots) (entries_after known slots before lines)
  unfolding entries_after
  entries-after known before [] = tt
  entries-after known before (line ∷ lines) =
      all-append (IsInShare slots) (entry_of known slots before line) _
      (entry-of known before line)
      (entries-after known (last_time before (entry_of known slots before line)) lines)

-- all entries of a client's script
entries-in-share : (client : Client) → 1 ≤ client.slots
    → list_all (is_in_share client.slots) (entries_of client) ≡ true
unfolding entries_of script
entries-in-share client some =
    all-tested client.slots _ (entries-after client.slots some _ 0 (lines_of client.script))

-- ---- clients side by side

-- a share is one of 1 to 8 slots
pub share-is : (shares : List ℕ) (i : ℕ) → list_all is_share shares ≡ true → i < length shares
    → (1 ≤ get_or shares i 0) × (get_or shares i 0 ≤ 8)
share-is [] i right h = absurd (omega (arith, h))
share-is (s ∷ shares) zero right h =
    let parts = and_parts (is_share s) (list_all is_share shares) right in
    let both = and_parts (nat_le 1 s) (nat_le s 8) parts.0 in
    (leb-true 1 s both.0, leb-true s 8 both.1)
share-is (s ∷ shares) (suc i) right h =
    share-is shares i
    ((and_parts (is_share s) (list_all is_share shares) right).1) (omega (arith, h))

pub clients-number : (shares : List ℕ) (scripts : List (List ℕ)) → length shares ≡ length scripts
    → length (clients_with shares scripts) ≡ length scripts
clients-number [] [] each = refl
clients-number [] (script ∷ scripts) each = absurd (omega (arith, each))
clients-number (s ∷ shares) [] each = absurd (omega (arith, each))
clients-number (s ∷ shares) (script ∷ scripts) each =
    ap suc (clients-number shares scripts (omega (arith, each)))

pub clients-shares : (shares : List ℕ) (scripts : List (List ℕ)) → length shares ≡ length scripts
    → map (λ (client : Client). client.slots) (clients_with shares scripts) ≡ shares
clients-shares [] [] each = refl
clients-shares [] (script ∷ scripts) each = absurd (omega (arith, each))
clients-shares (s ∷ shares) [] each = absurd (omega (arith, each))
clients-shares (s ∷ shares) (script ∷ scripts) each =
    ap (λ (l : List ℕ). s ∷ l) (clients-shares shares scripts (omega (arith, each)))

-- the entries of one client more
pub entries-more : {A : Type 0} (text : A → List ℕ) (shares : List ℕ) (handed : List A) (d : A)
    (i : ℕ) → i < length handed → length shares ≡ length handed
    → take (i + 1) (map entries_of (clients_with shares (map text handed)))
    ≡ take i (map entries_of (clients_with shares (map text handed)))
    ++ entries_of (client_with (get_or shares i 0) (text (get_or handed i d))) ∷ []
entries-more text shares [] d i h each = absurd (omega (arith, h))
entries-more text [] (a ∷ handed) d i h each = absurd (omega (arith, each))
entries-more text (s ∷ shares) (a ∷ handed) d zero h each = refl
entries-more text (s ∷ shares) (a ∷ handed) d (suc i) h each =
    let e : suc i + 1 ≡ suc (i + 1) = omega arith in
    rw e (ap (λ (l : List (List Entry)). entries_of (client_with s (text a)) ∷ l)
    (entries-more text shares handed d i (omega (arith, h)) (omega (arith, each))))

-- the queues of such clients
pub in-shares : (shares : List ℕ) (scripts : List (List ℕ)) (qs : List Queue)
    → length shares ≡ length scripts → list_all is_share shares ≡ true
    → map left_of qs ≡ map entries_of (clients_with shares scripts) → are_in_shares shares qs ≡ true
in-shares [] [] [] each right e = refl
in-shares [] [] (q ∷ qs) each right e =
    let one : suc (length (map left_of qs)) ≡ 0 = ap length e in absurd (omega (arith, one))
in-shares [] (script ∷ scripts) qs each right e = absurd (omega (arith, each))
in-shares (s ∷ shares) [] qs each right e = absurd (omega (arith, each))
in-shares (s ∷ shares) (script ∷ scripts) [] each right e =
    let one : 0 ≡ suc (length (map entries_of (clients_with shares scripts))) = ap length e in
    absurd (omega (arith, one))
in-shares (s ∷ shares) (script ∷ scripts) (q ∷ qs) each right e =
    let first : left_of q ≡ entries_of (client_with s script) =
    ap (λ (l : List (List Entry)). get_or l 0 []) e in
    let own : list_all (is_in_share s) (left_of q) ≡ true =
    ap (list_all (is_in_share s)) first
    ∙ entries-in-share (client_with s script) (share-is (s ∷ shares) 0 right (omega arith)).0 in
    let others : are_in_shares shares qs ≡ true =
    in-shares shares scripts qs (omega (arith, each))
    (and_parts (is_share s) (list_all is_share shares) right).1
    (ap (λ (l : List (List Entry)). drop 1 l) e) in
    rw (own, others) refl

-- ---- an entry that is due

asked-in : (share : ℕ) (what : Result AskedCommand LineRefusal)
    → asks_in_share share (result_in what) ≡ true
    → IfOk what (λ command. slot_of command < share)
asked-in share (Ok command) h = ltb-true (slot_of command) share h
asked-in share (Err refusal) h = tt

-- the entry that was taken of the first queue, and the others
first-in-share : (s : ℕ) (shares : List ℕ) (entry : Entry) (left : List Entry) (q : Queue)
    (qs : List Queue) → left_of q ≡ entry ∷ left → are_in_shares (s ∷ shares) (q ∷ qs) ≡ true
    → (asks_in_share s entry.what ≡ true) × (list_all (is_in_share s) left ≡ true)
    × (are_in_shares shares qs ≡ true)
first-in-share s shares entry left q qs first all =
    let both = and_parts (list_all (is_in_share s) (left_of q)) (are_in_shares shares qs) all in
    let own = and_parts (asks_in_share s entry.what) (list_all (is_in_share s) left)
    (ap (list_all (is_in_share s)) (sym first) ∙ both.0) in
    (own.0, own.1, both.1)

pub due-in-share : (now b : ℕ) (shares : List ℕ) (qs rs : List Queue) (due : Due)
    → are_in_shares shares qs ≡ true → TakesDue now b qs rs due → b ≤ due.client
    → IfOk due.what (λ command. slot_of command < get_or shares (due.client - b) 0)
due-in-share now b shares [] rs due all t from = absurd t
due-in-share now b [] (q ∷ qs) rs due all t from = cc
due-in-share now b (s ∷ shares) (q ∷ qs) [] due all t from = absurd t
due-in-share now b (s ∷ shares) (q ∷ qs) (r ∷ rs) due all (inl h) from =
    let z : due.client - b ≡ 0 = omega (arith, h.0) in
    let own = first-in-share s shares h.1.entry (left_of r) q qs h.1.first all in
    rw z (asked-in s due.what (rw h.1.what at own.0))
due-in-share now b (s ∷ shares) (q ∷ qs) (r ∷ rs) due all (inr h) from =
    let later = at-least now (b + 1) qs rs due h.2 in
    let n : due.client - b ≡ suc (due.client - (b + 1)) = omega (arith, later) in
    let both = and_parts (list_all (is_in_share s) (left_of q)) (are_in_shares shares qs) all in
    rw n (due-in-share now (b + 1) shares qs rs due both.1 h.2 later)

pub still-in-shares : (now b : ℕ) (shares : List ℕ) (qs rs : List Queue) (due : Due)
    → are_in_shares shares qs ≡ true → TakesDue now b qs rs due → are_in_shares shares rs ≡ true
still-in-shares now b shares [] rs due all t = absurd t
still-in-shares now b [] (q ∷ qs) rs due all t = cc
still-in-shares now b (s ∷ shares) (q ∷ qs) [] due all t = absurd t
still-in-shares now b (s ∷ shares) (q ∷ qs) (r ∷ rs) due all (inl h) =
    let own = first-in-share s shares h.1.entry (left_of r) q qs h.1.first all in
    let others : are_in_shares shares rs ≡ true = ap (are_in_shares shares) h.2 ∙ own.2 in
    rw (own.1, others) refl
still-in-shares now b (s ∷ shares) (q ∷ qs) (r ∷ rs) due all (inr h) =
    let both = and_parts (list_all (is_in_share s) (left_of q)) (are_in_shares shares qs) all in
    let own : list_all (is_in_share s) (left_of r) ≡ true =
    ap (λ (x : Queue). list_all (is_in_share s) (left_of x)) h.1 ∙ both.0 in
    let others : are_in_shares shares rs ≡ true =
    still-in-shares now (b + 1) shares qs rs due both.1 h.2 in
    rw (own, others) refl

-- so too where none was due
pub in-shares-still : (now : ℕ) (shares : List ℕ) (qs rs : List Queue) (o : Option Due)
    → are_in_shares shares qs ≡ true → IfSome o (λ due. TakesDue now 1 qs rs due)
    → (IsNone o → rs ≡ qs) → are_in_shares shares rs ≡ true
in-shares-still now shares qs rs (Some due) all t kept =
    still-in-shares now 1 shares qs rs due all t
in-shares-still now shares qs rs None all t kept = ap (are_in_shares shares) (kept refl) ∙ all
