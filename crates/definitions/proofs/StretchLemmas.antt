-- A stretch of samples in which no client asks: what it adds to the text.
use Rattle.std.proofs.Common.{◌≡◌, ℕ, zero, suc, ◌+◌, ◌<◌, List, [], ◌∷◌, ◌++◌, length, take, refl}
use Rattle.std.proofs.Common.{sym, ap, ◌∙◌, append_assoc, append-nil, arith, false, lit<}
use Rattle.std.specs.Prelude.{map, flat_map, ◌==◌}
use Rattle.std.specs.List.{enumerate_from, AllByRecursion, range_with_len}
use Rattle.std.proofs.lemmas.Bool.{le-ltb}
use Rattle.definitions.specs.Samples.{Sample}
use Rattle.definitions.specs.Oscillators.{Settings}
use Rattle.definitions.specs.Scripts.{Entry}
use Rattle.definitions.specs.Events.{events_at_end, life_events}
use Rattle.definitions.specs.Lives.{life_of, life_now}
use Rattle.definitions.specs.Texts.{for_client, event_text}
use Rattle.definitions.specs.Receiver.{Client, entries_of, commands_to, body_lines}
use Rattle.definitions.specs.Receiver.{lines_at, event_lines, answer_lines, at_each_sample}
use Rattle.definitions.specs.Receiver.{at_each_time, for_each_client, event_texts, answer_texts}
use Rattle.definitions.specs.Receiver.{entry_answer_texts, entries_before, timed_texts}
use Rattle.definitions.proofs.BodyLemmas.{body_lines-more}

pub lines_at-halves : (settings : Settings) (clients : List Client)
    (xs : List Sample)
    → lines_at settings clients xs
    ≡ event_lines settings clients xs ++ answer_lines settings clients xs
unfolding lines_at event_lines answer_lines
lines_at-halves settings clients xs = refl

-- no answers fall due at the new times before the last
abbrev pub IsQuiet : Settings → List Client → List Sample → List Sample → Type 0
IsQuiet settings clients xs ys =
    (n : ℕ) → 0 < n → n < length ys → answer_lines settings clients (xs ++ take n ys) ≡ []

pub body_lines-stretch : (settings : Settings) (clients : List Client)
    (xs : List Sample) (y : Sample) (ys : List Sample)
    → IsQuiet settings clients xs (y ∷ ys)
    → body_lines settings (xs ++ y ∷ ys) clients
    ≡ body_lines settings xs clients
    ++ at_each_sample (event_lines settings clients) xs (y ∷ ys)
    ++ answer_lines settings clients (xs ++ y ∷ ys)
unfolding at_each_sample
body_lines-stretch settings clients xs y [] quiet =
    let here = xs ++ y ∷ [] in
    let before = body_lines settings xs clients in
    let tells = event_lines settings clients here in
    let says = answer_lines settings clients here in
    body_lines-more settings xs y clients
    ∙ ap (λ r. before ++ r) (lines_at-halves settings clients here)
    ∙ sym (append_assoc before tells says)
    ∙ ap (λ r. before ++ r ++ says) (sym (append-nil tells))
body_lines-stretch settings clients xs y (z ∷ ys) quiet =
    let here = xs ++ y ∷ [] in
    let all = here ++ z ∷ ys in
    let before = body_lines settings xs clients in
    let tells = event_lines settings clients here in
    let says = answer_lines settings clients here in
    let later = at_each_sample (event_lines settings clients) here (z ∷ ys) in
    let last = answer_lines settings clients all in
    let same : xs ++ y ∷ z ∷ ys ≡ all = sym (append_assoc xs (y ∷ []) (z ∷ ys)) in
    let none : says ≡ [] = quiet 1 (lit< tt) (omega arith) in
    let first : body_lines settings here clients ≡ before ++ tells =
    body_lines-more settings xs y clients
    ∙ ap (λ r. before ++ r)
    (lines_at-halves settings clients here ∙ ap (λ r. tells ++ r) none
    ∙ append-nil tells) in
    let next =
    body_lines-stretch settings clients here z ys
    (λ n more less. ap (answer_lines settings clients)
    (append_assoc xs (y ∷ []) (take n (z ∷ ys)))
    ∙ quiet (suc n) (omega arith) (omega (arith, less))) in
    ap (λ r. body_lines settings r clients) same ∙ next ∙ ap (λ r. r ++ later ++ last) first
    ∙ ap (λ r. r ++ last) (append_assoc before tells later)
    ∙ ap (λ r. before ++ (tells ++ later) ++ answer_lines settings clients r) (sym same)

-- ---- where no entry stands at the time, nothing is answered
abbrev pub NoneAt : ℕ → List Entry → Type 0
NoneAt time entries = AllByRecursion (λ (e : Entry). (e.time == time) ≡ false) entries

answered-none : (settings : Settings) (client : Client) (xs : List Sample)
    → NoneAt (length xs) (entries_of client) → answer_texts settings client xs ≡ []
unfolding answer_texts
answered-none settings client xs none = among 0 (entries_of client) none
  where
    among : (b : ℕ) (es : List Entry) → NoneAt (length xs) es
        → flat_map (entry_answer_texts settings xs (entries_of client))
        (enumerate_from b es) ≡ []
    among b [] none = refl
    among b (e ∷ es) none = rw none.0 (among (b + 1) es none.1)

pub answer_lines-none : (settings : Settings) (clients : List Client)
    (xs : List Sample)
    → AllByRecursion (λ (client : Client). NoneAt (length xs) (entries_of client)) clients
    → answer_lines settings clients xs ≡ []
unfolding answer_lines for_each_client
answer_lines-none settings clients xs none = among 1 clients none
  where
    among : (b : ℕ) (cs : List Client)
        → AllByRecursion (λ (client : Client). NoneAt (length xs) (entries_of client)) cs
        → flat_map (λ (p : ℕ × Client). map (for_client p.0)
        (timed_texts xs (answer_texts settings p.1 xs))) (enumerate_from b cs) ≡ []
    among b [] none = refl
    among b (c ∷ cs) none =
        rw (answered-none settings c xs none.0) (among (b + 1) cs none.1)

-- ---- before the first sample nothing is emitted
told-first : (settings : Settings) (client : Client)
    → event_texts settings client [] ≡ []
unfolding event_texts events_at_end life_of life_now life_events commands_to
told-first settings client =
    ap (λ (es : List Entry). flat_map
    (λ slot. map (event_text slot)
    (events_at_end settings [] (commands_to slot es)))
    (range_with_len 0 client.slots)) (none_before (entries_of client))
    ∙ nothing 0 client.slots
  where
    none_before : (es : List Entry) → entries_before 0 es ≡ []
    none_before [] = refl
    none_before (e ∷ es) = rw (le-ltb e.time 0 (omega arith)) (none_before es)

    nothing : (a n : ℕ)
        → flat_map (λ (slot : ℕ). map (event_text slot)
        (events_at_end settings [] [])) (range_with_len a n) ≡ []
    nothing a zero = refl
    nothing a (suc n) = nothing (a + 1) n

pub event_lines-first : (settings : Settings) (clients : List Client)
    → event_lines settings clients [] ≡ []
unfolding event_lines for_each_client
event_lines-first settings clients = among 1 clients
  where
    among : (b : ℕ) (cs : List Client)
        → flat_map (λ (p : ℕ × Client). map (for_client p.0)
        (timed_texts [] (event_texts settings p.1 []))) (enumerate_from b cs) ≡ []
    among b [] = refl
    among b (c ∷ cs) = rw (told-first settings c) (among (b + 1) cs)

pub body_lines-first : (settings : Settings) (clients : List Client)
    → body_lines settings [] clients ≡ answer_lines settings clients []
unfolding body_lines at_each_time
body_lines-first settings clients =
    append-nil (lines_at settings clients []) ∙ lines_at-halves settings clients []
    ∙ ap (λ r. r ++ answer_lines settings clients [])
    (event_lines-first settings clients)

-- the same for any samples that are some
pub body_lines-some : (settings : Settings) (clients : List Client)
    (xs ys : List Sample) → 0 < length ys → IsQuiet settings clients xs ys
    → body_lines settings (xs ++ ys) clients
    ≡ body_lines settings xs clients
    ++ at_each_sample (event_lines settings clients) xs ys
    ++ answer_lines settings clients (xs ++ ys)
body_lines-some settings clients xs [] some quiet = absurd (omega (arith, some))
body_lines-some settings clients xs (y ∷ ys) some quiet =
    body_lines-stretch settings clients xs y ys quiet
