-- The entries of a script come by time, and are answered one by one.
use Rattle.std.proofs.Common.{◌≡◌, ℕ, ◌+◌, ◌≤◌, List, [], ◌∷◌, ◌++◌, length, take, refl, sym, ap}
use Rattle.std.proofs.Common.{◌∙◌, append_assoc, append-nil, arith, length-append}
use Rattle.std.specs.Prelude.{Bool, true, false, nat_lt, nat_eq, not, cond, flat_map, Option, Some}
use Rattle.std.specs.Prelude.{None, Result, Err}
use Rattle.std.specs.List.{AllByRecursion, enumerate_from, list_all}
use Rattle.std.proofs.lemmas.Bool.{ltb-false}
use Rattle.std.proofs.Math.Seq.{take-append_seam}
use Rattle.definitions.specs.Samples.{Sample}
use Rattle.definitions.specs.Oscillators.{Settings}
use Rattle.definitions.specs.Commands.{Command}
use Rattle.definitions.specs.Lines.{words_of, lines_of}
use Rattle.definitions.specs.Scripts.{verbs, Verb, Entry, entry_at, entry_of, entry_of_words}
use Rattle.definitions.specs.Scripts.{entries_after, last_time, script, time_in, is_printable}
use Rattle.definitions.specs.Scripts.{command_in}
use Rattle.definitions.specs.Receiver.{Client, entries_of, answer_texts}
use Rattle.definitions.specs.Receiver.{entry_answer_texts, reply_text}

-- ---- by time

-- none of these stands before a time
abbrev pub NoneBefore : ℕ → List Entry → Type 0
NoneBefore time entries = AllByRecursion (λ (e : Entry). time ≤ e.time) entries

-- each stands at the time of those before it, or later
abbrev pub AreByTime : List Entry → Type 0
AreByTime [] = Unit {0}
AreByTime (e ∷ es) = NoneBefore e.time es × AreByTime es

pub none_before-less : (s t : ℕ) (es : List Entry) → s ≤ t → NoneBefore t es → NoneBefore s es
none_before-less s t [] h all = tt
none_before-less s t (e ∷ es) h all = (omega (arith, all.0, h), none_before-less s t es h all.1)

timed_at : (before time : ℕ) (b : Bool) (what : Result Command ℕ) → nat_lt time before ≡ b
    → before ≤ (cond {A = Entry} b (record { time = before; what = Err 4 })
    (record { time = time; what = what })).time
timed_at before time true what e = omega arith
timed_at before time false what e = ltb-false time before e

entry_at-later : (known : List Verb) (slots before : ℕ) (time : Option ℕ) (words : List (List ℕ))
    → before ≤ (entry_at known slots before time words).time
entry_at-later known slots before None words = omega arith
entry_at-later known slots before (Some time) words =
    timed_at before time (nat_lt time before) (command_in known slots words) refl

words-later : (known : List Verb) (slots before : ℕ) (words : List (List ℕ))
    → NoneBefore before (entry_of_words known slots before words)
words-later known slots before [] = tt
words-later known slots before (word ∷ words) =
    (entry_at-later known slots before (time_in word) words, tt)

chosen-later : (before : ℕ) (long odd : Bool) (es : List Entry) → NoneBefore before es
    → NoneBefore before
    (cond long (record { time = before; what = Err 1 } ∷ [])
    (cond odd (record { time = before; what = Err 2 } ∷ []) es))
chosen-later before true odd es later = (omega arith, tt)
chosen-later before false true es later = (omega arith, tt)
chosen-later before false false es later = later

entry_of-later : (known : List Verb) (slots before : ℕ) (line : List ℕ)
    → NoneBefore before (entry_of known slots before line)
unfolding entry_of
entry_of-later known slots before line =
    chosen-later before (nat_lt 80 (length line)) (not (list_all is_printable line))
    (entry_of_words known slots before (words_of line))
    (words-later known slots before (words_of line))

-- the entries of lines, after one of time before
pub record ComeAfter (before : ℕ) (entries : List Entry) : Type 0 where
  pub later : NoneBefore before entries
  pub by_time : AreByTime entries

-- an entry or none, and those of the lines after it
join : (before : ℕ) (here rest : List Entry) → length here ≤ 1 → NoneBefore before here
    → ComeAfter (last_time before here) rest → ComeAfter before (here ++ rest)
join before [] rest one later after = after
join before (e ∷ []) rest one later after = record {
  later = (later.0, none_before-less before e.time rest later.0 after.later);
  by_time = (after.later, after.by_time);
}
join before (e ∷ f ∷ es) rest one later after = absurd (omega arith)

one_chosen : (long odd : Bool) (a b : Entry) (es : List Entry) → length es ≤ 1
    → length (cond long (a ∷ []) (cond odd (b ∷ []) es)) ≤ 1
one_chosen true odd a b es one = omega arith
one_chosen false true a b es one = omega arith
one_chosen false false a b es one = one

one_of_words : (known : List Verb) (slots before : ℕ) (words : List (List ℕ))
    → length (entry_of_words known slots before words) ≤ 1
one_of_words known slots before [] = omega arith
one_of_words known slots before (word ∷ words) = omega arith

entry_of-one : (known : List Verb) (slots before : ℕ) (line : List ℕ)
    → length (entry_of known slots before line) ≤ 1
unfolding entry_of
entry_of-one known slots before line =
    one_chosen (nat_lt 80 (length line)) (not (list_all is_printable line))
    (record { time = before; what = Err 1 }) (record { time = before; what = Err 2 })
    (entry_of_words known slots before (words_of line))
    (one_of_words known slots before (words_of line))

pub entries_after-later : (known : List Verb) (slots before : ℕ) (lines : List (List ℕ))
    → ComeAfter before (entries_after known slots before lines)
unfolding entries_after
entries_after-later known slots before [] = record { later = tt; by_time = tt }
entries_after-later known slots before (line ∷ lines) =
    let here : List Entry = entry_of known slots before line in
    join before here (entries_after known slots (last_time before here) lines)
    (entry_of-one known slots before line) (entry_of-later known slots before line)
    (entries_after-later known slots (last_time before here) lines)

-- the entries of a script come by time
pub entries_of-by_time : (client : Client)
    → AreByTime (entries_of client)
unfolding entries_of script
entries_of-by_time client =
    (entries_after-later verbs client.slots 0 (lines_of client.script)).by_time

-- ---- answered one by one

-- the answers at the last time to the entries that are left, where those before them have been
-- answered
unfoldable pub answers_left : Settings → List Sample → List Entry → List Entry → List (List ℕ)
answers_left settings xs done left =
    flat_map (entry_answer_texts settings xs (done ++ left)) (enumerate_from (length done) left)

pub answered-left : (settings : Settings) (client : Client) (xs : List Sample)
    → answer_texts settings client xs
    ≡ answers_left settings xs [] (entries_of client)
unfolding answer_texts answers_left
answered-left settings client xs = refl

at_its_time : (settings : Settings) (xs : List Sample) (entries : List Entry) (k : ℕ) (e : Entry)
    (b : Bool) → nat_eq e.time (length xs) ≡ b
    → entry_answer_texts settings xs entries (k, e)
    ≡ cond b (reply_text settings xs (take k entries) e.what ∷ []) []
at_its_time settings xs entries k e b is = rw is refl

-- one at this time is answered, and has then been
pub answers_left-now : (settings : Settings) (xs : List Sample) (done : List Entry) (e : Entry)
    (left : List Entry) → nat_eq e.time (length xs) ≡ true
    → answers_left settings xs done (e ∷ left)
    ≡ reply_text settings xs done e.what ∷ answers_left settings xs (done ++ e ∷ []) left
unfolding answers_left
answers_left-now settings xs done e left now =
    let all : List Entry = done ++ e ∷ left in
    let same : done ++ e ∷ left ≡ (done ++ e ∷ []) ++ left =
    sym (append_assoc done (e ∷ []) left) in
    let long : length done + 1 ≡ length (done ++ e ∷ []) = sym (length-append done (e ∷ [])) in
    let front : take (length done) all ≡ done = take-append_seam done (e ∷ left) in
    ap (λ (r : List (List ℕ)). r
    ++ flat_map (entry_answer_texts settings xs all) (enumerate_from (length done + 1) left))
    (at_its_time settings xs all (length done) e true now
    ∙ ap (λ (es : List Entry). reply_text settings xs es e.what ∷ []) front)
    ∙ ap (λ (es : List Entry). reply_text settings xs done e.what ∷ flat_map
    (entry_answer_texts settings xs es) (enumerate_from (length done + 1) left)) same
    ∙ ap (λ k. reply_text settings xs done e.what ∷ flat_map
    (entry_answer_texts settings xs ((done ++ e ∷ []) ++ left)) (enumerate_from k left)) long

-- one at another time is passed over
pub answers_left-other : (settings : Settings) (xs : List Sample) (done : List Entry) (e : Entry)
    (left : List Entry) → nat_eq e.time (length xs) ≡ false
    → answers_left settings xs done (e ∷ left) ≡ answers_left settings xs (done ++ e ∷ []) left
unfolding answers_left
answers_left-other settings xs done e left other =
    let all : List Entry = done ++ e ∷ left in
    let same : done ++ e ∷ left ≡ (done ++ e ∷ []) ++ left =
    sym (append_assoc done (e ∷ []) left) in
    let long : length done + 1 ≡ length (done ++ e ∷ []) = sym (length-append done (e ∷ [])) in
    ap (λ (r : List (List ℕ)). r
    ++ flat_map (entry_answer_texts settings xs all) (enumerate_from (length done + 1) left))
    (at_its_time settings xs all (length done) e false other)
    ∙ ap (λ (es : List Entry). flat_map (entry_answer_texts settings xs es)
    (enumerate_from (length done + 1) left)) same
    ∙ ap (λ k. flat_map (entry_answer_texts settings xs ((done ++ e ∷ []) ++ left))
    (enumerate_from k left)) long

-- nothing is answered where all that are left stand at other times
pub answers_left-none : (settings : Settings) (xs : List Sample) (done left : List Entry)
    → AllByRecursion (λ (e : Entry). nat_eq e.time (length xs) ≡ false) left
    → answers_left settings xs done left ≡ []
unfolding answers_left
answers_left-none settings xs done [] others = refl
answers_left-none settings xs done (e ∷ left) others =
    unfold answers_left in
    answers_left-other settings xs done e left others.0
    ∙ answers_left-none settings xs (done ++ e ∷ []) left others.1

-- those at earlier times may be passed over
pub answers_left-past : (settings : Settings) (xs : List Sample) (before done left : List Entry)
    → AllByRecursion (λ (e : Entry). nat_eq e.time (length xs) ≡ false) done
    → answers_left settings xs before (done ++ left)
    ≡ answers_left settings xs (before ++ done) left
answers_left-past settings xs before [] left others =
    ap (λ (es : List Entry). answers_left settings xs es left) (sym (append-nil before))
answers_left-past settings xs before (e ∷ done) left others =
    answers_left-other settings xs before e (done ++ left) others.0
    ∙ answers_left-past settings xs (before ++ e ∷ []) done left others.1
    ∙ ap (λ (es : List Entry). answers_left settings xs es left) (append_assoc before (e ∷ []) done)
