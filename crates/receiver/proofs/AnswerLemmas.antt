-- Answers that are written one by one.
use Rattle.std.proofs.Common.{◌≡◌, ◌+◌, ◌<◌, ◌≤◌, ℕ, List, [], ◌++◌, refl, sym, ap, ◌∙◌, subst}
use Rattle.std.proofs.Common.{append_assoc, append-nil, add-one, length, drop, get_or}
use Rattle.std.specs.Prelude.{Option, map, Result, Ok, Err, OnOk, MatchResult}
use Rattle.std.proofs.Math.Seq.{drop-cons}
use Rattle.std.proofs.Math.ListN.{drop_of_length-le}
use Rattle.std.proofs.lemmas.Grind.{flat_map-append}
use Rattle.std.specs.Io.KnownBytes.{Appends}
use Rattle.definitions.specs.Samples.{Sample}
use Rattle.definitions.specs.Oscillators.{Settings}
use Rattle.definitions.specs.Receiver.{Client}
use Rattle.definitions.specs.Lines.{ended_line, as_bytes}
use Rattle.definitions.specs.Receiver.{body, body_lines, full, full_lines, end_lines}
use Rattle.definitions.specs.Receiver.{answer_lines}
use Rattle.definitions.proofs.BodyLemmas.{as_bytes-append}
use Rattle.slot_protocol.specs.declared.event.SlotEvent.{SlotEvent}
use Rattle.receiver.specs.declared.session.Session.{Session}
use Rattle.receiver.specs.Texts.{AppendsPart}
use Rattle.receiver.specs.Sessions.{StandsFor, Gives}
use Rattle.slot_protocol.specs.Events.{line_of}
use Rattle.receiver.specs.Outputs.{Adds}
use Rattle.receiver.specs.Runs.{HasAnswered, IsWrittenTo}
use Rattle.receiver.proofs.TextLemmas.{wrote-none, wrote-text, wrote-part, wrote-all, wrote-front}

pub answered-none : (settings : Settings) (clients : List Client) (xs : List Sample)
    (waiting : List (List ℕ)) (session : Session) (start : Option (List ℕ))
    → StandsFor settings clients session xs waiting
    → HasAnswered settings clients xs waiting start session start
answered-none settings clients xs waiting session start s =
    record { left = waiting; stands = s; wrote = wrote-none start (as_bytes waiting) }

pub answered-more : (settings : Settings) (clients : List Client) (xs : List Sample)
    (waiting : List (List ℕ)) (start b c : Option (List ℕ)) (old new : Session) (line : List ℕ)
    → Gives old line new → Appends b c line
    → HasAnswered settings clients xs waiting start old b
    → HasAnswered settings clients xs waiting start new c
unfolding as_bytes
answered-more settings clients xs waiting start b c old new line gives p h =
    let n = gives settings clients xs h.left h.stands in
    record {
      left = n.rest;
      stands = n.stands;
      wrote = wrote-text start b c (as_bytes waiting) (as_bytes h.left) (ended_line n.text)
          (as_bytes n.rest) h.wrote (ap as_bytes n.first) (subst (Appends b c) n.ended p);
    }

pub answered-part : (settings : Settings) (clients : List Client) (xs : List Sample)
    (waiting : List (List ℕ)) (start b c : Option (List ℕ)) (old new : Session) (line : List ℕ)
    → Gives old line new → AppendsPart b c line
    → HasAnswered settings clients xs waiting start old b
    → AppendsPart start c (as_bytes waiting)
unfolding as_bytes
answered-part settings clients xs waiting start b c old new line gives p h =
    let n = gives settings clients xs h.left h.stands in
    wrote-part start b c (as_bytes waiting) (as_bytes h.left) (ended_line n.text) (as_bytes n.rest)
    h.wrote (ap as_bytes n.first) (subst (AppendsPart b c) n.ended p)

pub events-next : (events : List SlotEvent) (i : ℕ) (d : SlotEvent) → i < length events
    → as_bytes (map line_of (drop i events))
    ≡ ended_line (line_of (get_or events i d)) ++ as_bytes (map line_of (drop (i + 1) events))
unfolding as_bytes
events-next events i d h = rw (drop-cons events i d h, add-one) refl

-- none are left
pub events-done : (events : List SlotEvent) (i : ℕ) → length events ≤ i
    → as_bytes (map line_of (drop i events)) ≡ []
unfolding as_bytes
events-done events i h = rw (drop_of_length-le events h) refl

-- ---- a stretch: what was emitted, and then the answers
pub stretch-text : (before told answers all : List (List ℕ)) → all ≡ before ++ told ++ answers
    → as_bytes all ≡ as_bytes before ++ (as_bytes told ++ as_bytes answers)
unfolding as_bytes
stretch-text before told answers all e =
    ap as_bytes e ∙ flat_map-append ended_line (before ++ told) answers
    ∙ ap (λ r. r ++ as_bytes answers) (flat_map-append ended_line before told)
    ∙ append_assoc (as_bytes before) (as_bytes told) (as_bytes answers)

pub stretch-all : (start b c d : Option (List ℕ)) (before told answers all : List (List ℕ))
    → all ≡ before ++ told ++ answers
    → Appends start b (as_bytes before) → Appends b c (as_bytes told)
    → Appends c d (as_bytes answers) → Appends start d (as_bytes all)
stretch-all start b c d before told answers all e p q r =
    let whole = stretch-text before told answers all e in
    let first =
    wrote-front start b (as_bytes all) (as_bytes before) (as_bytes told ++ as_bytes answers) p
    whole in
    let second =
    wrote-text start b c (as_bytes all) (as_bytes told ++ as_bytes answers) (as_bytes told)
    (as_bytes answers) first refl q in
    let third =
    wrote-text start c d (as_bytes all) (as_bytes answers) (as_bytes answers) [] second
    (sym (append-nil (as_bytes answers))) r in
    wrote-all start d (as_bytes all) [] refl third

pub stretch-part-told : (start b c : Option (List ℕ)) (before told answers all : List (List ℕ))
    → all ≡ before ++ told ++ answers
    → Appends start b (as_bytes before) → AppendsPart b c (as_bytes told)
    → AppendsPart start c (as_bytes all)
stretch-part-told start b c before told answers all e p q =
    let whole = stretch-text before told answers all e in
    let first =
    wrote-front start b (as_bytes all) (as_bytes before) (as_bytes told ++ as_bytes answers) p
    whole in
    wrote-part start b c (as_bytes all) (as_bytes told ++ as_bytes answers) (as_bytes told)
    (as_bytes answers) first refl q

pub stretch-part-answers : (start b c d : Option (List ℕ)) (before told answers all : List (List ℕ))
    → all ≡ before ++ told ++ answers
    → Appends start b (as_bytes before) → Appends b c (as_bytes told)
    → AppendsPart c d (as_bytes answers) → AppendsPart start d (as_bytes all)
stretch-part-answers start b c d before told answers all e p q r =
    let whole = stretch-text before told answers all e in
    let first =
    wrote-front start b (as_bytes all) (as_bytes before) (as_bytes told ++ as_bytes answers) p
    whole in
    let second =
    wrote-text start b c (as_bytes all) (as_bytes told ++ as_bytes answers) (as_bytes told)
    (as_bytes answers) first refl q in
    wrote-part start c d (as_bytes all) (as_bytes answers) (as_bytes answers) [] second
    (sym (append-nil (as_bytes answers))) r

-- the stretch's events and its answers were added to what was written by its begin
pub stretch-taken : {A E : Type 0} (settings : Settings) (clients : List Client)
    (start b c d : Option (List ℕ)) (after : Session) (xs more : List Sample)
    (told : List (List ℕ)) (r : Result A E)
    → body_lines settings more clients
    ≡ body_lines settings xs clients ++ told ++ answer_lines settings clients more
    → Appends start b (body settings xs clients) → Appends b c (as_bytes told)
    → Adds c d (as_bytes (answer_lines settings clients more)) r
    × OnOk r (StandsFor settings clients after more [])
    → MatchResult r (λ _. IsWrittenTo settings clients start after d more)
    (λ _. AppendsPart start d (body settings more clients))
unfolding body
stretch-taken settings clients start b c d after xs more told (Ok x) e p q a = record {
  stands = a.1;
  written = stretch-all start b c d (body_lines settings xs clients) told
      (answer_lines settings clients more) (body_lines settings more clients) e p q a.0;
}
stretch-taken settings clients start b c d after xs more told (Err x) e p q a =
    stretch-part-answers start b c d (body_lines settings xs clients) told
    (answer_lines settings clients more) (body_lines settings more clients) e p q a.0

-- ---- the whole text: the lines of all times, and then `end`
pub full-is : (settings : Settings) (xs : List Sample) (clients : List Client)
    → full settings xs clients
    ≡ body settings xs clients ++ as_bytes (end_lines xs clients)
unfolding full full_lines body
full-is settings xs clients =
    as_bytes-append (body_lines settings xs clients) (end_lines xs clients)
