-- The verb of a line says which event, answer or end it is.
use Rattle.std.proofs.Common.{inl, inr, ◌≡◌, ℕ, zero, suc, ◌/◌, ◌%◌, List, [], ◌∷◌, ◌++◌}
use Rattle.std.proofs.Common.{length, refl, ap, ◌∙◌, arith}
use Rattle.std.specs.Prelude.{true, false, nat_eq, slice_get}
use Rattle.std.specs.Prelude.{Option, Some, None, Result, Ok, Err, codes, ◌⊎◌, ℤ}
use Rattle.std.specs.Fmt.{decimal, digits, digits_onto, digit_glyph}
use Rattle.std.proofs.lemmas.Bool.{ne_eqb}
use Rattle.definitions.specs.Samples.{Sample}
use Rattle.definitions.specs.Oscillators.{Settings}
use Rattle.definitions.specs.Commands.{Command}
use Rattle.definitions.specs.Scripts.{Entry}
use Rattle.definitions.specs.Pages.{Kind, clock, eph2, eph3, almanac, utc, health, message}
use Rattle.definitions.specs.DataSets.{ephemeris, single}
use Rattle.definitions.specs.Events.{Event, acquired, count, locked, unlocked, signal_lost, edge}
use Rattle.definitions.specs.Events.{gap, subframe, reported, almanacs}
use Rattle.definitions.specs.Answers.{View, idle, acquiring, holding, tracking, Answer, accepted}
use Rattle.definitions.specs.Answers.{refused, shown, answer_at_end}
use Rattle.definitions.specs.Lines.{pieces_ended_by, words_of}
use Rattle.definitions.specs.Texts.{event_text, page_text, view_text, refusal_text, answer_text}
use Rattle.definitions.specs.Texts.{at_time, for_client}
use Rattle.definitions.specs.Receiver.{reply_text, end_line}
use Rattle.definitions.specs.PrintedLaws.{page_verb, report_verb, verb_of}
use Rattle.definitions.proofs.MarkLemmas.{IsMark, Without, is_without, written, by_if, first-piece}
use Rattle.definitions.proofs.MarkLemmas.{last-piece, decimal-without}

-- ---- words

-- a word: one byte or more, none of them a space
pub record IsWord (w : List ℕ) : Type 0 where
  pub some : nat_eq (length w) 0 ≡ false
  pub whole : Without 32 w

space : IsMark 32
space = inl (omega arith)

pub word : (w : List ℕ) → nat_eq (length w) 0 ≡ false → is_without 32 w ≡ true → IsWord w
word w some e = record { some = some; whole = written 32 w e }

pub first-word : (w rest : List ℕ) → IsWord w → words_of (w ++ 32 ∷ rest) ≡ w ∷ words_of rest
first-word w rest is = rw (first-piece 32 w rest is.whole, is.some) refl

pub only-word : (w : List ℕ) → IsWord w → words_of w ≡ w ∷ []
only-word [] is = absurd (clash is.some)
  where
    clash : true ≡ false → ⊥
    clash e = cc
only-word (b ∷ w) is = rw (last-piece 32 b w is.whole, is.some) refl

-- ---- a number is a word
onto-some : (k n : ℕ) (acc : List ℕ) → nat_eq (length acc) 0 ≡ false
    → nat_eq (length (digits_onto k 10 false n acc)) 0 ≡ false
onto-some zero n acc some = some
onto-some (suc k) n acc some =
    by_if (λ (w : List ℕ). nat_eq (length w) 0 ≡ false) (nat_eq (n / 10) 0)
    (digit_glyph false (n % 10) ∷ acc)
    (digits_onto k 10 false (n / 10) (digit_glyph false (n % 10) ∷ acc))
    (ne_eqb (suc (length acc)) 0 (λ e. omega (arith, e)))
    (onto-some k (n / 10) (digit_glyph false (n % 10) ∷ acc)
    (ne_eqb (suc (length acc)) 0 (λ e. omega (arith, e))))

pub decimal-word : (n : ℕ) → IsWord (decimal n)
unfolding digits
decimal-word n = record {
  some = by_if (λ (w : List ℕ). nat_eq (length w) 0 ≡ false) (nat_eq (n / 10) 0)
      (digit_glyph false (n % 10) ∷ [])
      (digits_onto 63 10 false (n / 10) (digit_glyph false (n % 10) ∷ [])) refl
      (onto-some 63 (n / 10) (digit_glyph false (n % 10) ∷ []) refl);
  whole = decimal-without 32 space n;
}

-- ---- the verb of a line
pub words-of-line : (n t : ℕ) (text : List ℕ)
    → words_of (for_client n (at_time t text)) ≡ decimal n ∷ decimal t ∷ words_of text
words-of-line n t text =
    first-word (decimal n) (at_time t text) (decimal-word n)
    ∙ ap (λ ws. decimal n ∷ ws) (first-word (decimal t) text (decimal-word t))

first-of : List (List ℕ) → Option (List ℕ)
first-of ws = slice_get ws 0

verb-is : (n t : ℕ) (text : List ℕ)
    → verb_of (for_client n (at_time t text)) ≡ first-of (words_of text)
unfolding first-of
verb-is n t text = ap (λ (ws : List (List ℕ)). slice_get ws 2) (words-of-line n t text)

first-is : (w rest : List ℕ) → IsWord w → first-of (words_of (w ++ 32 ∷ rest)) ≡ Some w
unfolding first-of
first-is w rest is = ap (λ (ws : List (List ℕ)). slice_get ws 0) (first-word w rest is)

sole-is : (w : List ℕ) → IsWord w → first-of (words_of w) ≡ Some w
unfolding first-of
sole-is w is = ap (λ (ws : List (List ℕ)). slice_get ws 0) (only-word w is)

-- ---- the verb of each event
abbrev pub event_verb : Event → Option (List ℕ)
event_verb (acquired prn cell) = Some (codes "acq")
event_verb (count c) = Some (codes "count")
event_verb locked = Some (codes "lock")
event_verb unlocked = Some (codes "unlock")
event_verb signal_lost = Some (codes "lost")
event_verb edge = Some (codes "bits")
event_verb (gap n) = Some (codes "gap")
event_verb (subframe s) = Some (codes "sub")
event_verb (reported r) = report_verb r
event_verb (almanacs set) = Some (codes "als")

nothing-first : first-of (words_of []) ≡ None
unfolding first-of pieces_ended_by
nothing-first = refl

page-first : (slot : ℕ) (kind : Kind) (values : List ℤ)
    → first-of (words_of (page_text slot (record { kind = kind; values = values })))
    ≡ page_verb kind
unfolding page_text
page-first slot clock values = nothing-first
page-first slot eph2 values = nothing-first
page-first slot eph3 values = nothing-first
page-first slot almanac values = first-is (codes "alm") _ (word (codes "alm") refl refl)
page-first slot utc values = first-is (codes "utc") _ (word (codes "utc") refl refl)
page-first slot health values = first-is (codes "hlt") _ (word (codes "hlt") refl refl)
page-first slot message values = first-is (codes "msg") _ (word (codes "msg") refl refl)

event-first : (slot : ℕ) (event : Event)
    → first-of (words_of (event_text slot event)) ≡ event_verb event
unfolding event_text
event-first slot (acquired prn cell) = first-is (codes "acq") _ (word (codes "acq") refl refl)
event-first slot (count c) = first-is (codes "count") _ (word (codes "count") refl refl)
event-first slot locked = first-is (codes "lock") _ (word (codes "lock") refl refl)
event-first slot unlocked = first-is (codes "unlock") _ (word (codes "unlock") refl refl)
event-first slot signal_lost = first-is (codes "lost") _ (word (codes "lost") refl refl)
event-first slot edge = first-is (codes "bits") _ (word (codes "bits") refl refl)
event-first slot (gap n) = first-is (codes "gap") _ (word (codes "gap") refl refl)
event-first slot (subframe s) = first-is (codes "sub") _ (word (codes "sub") refl refl)
event-first slot (reported (ephemeris values)) =
    first-is (codes "eph") _ (word (codes "eph") refl refl)
event-first slot (reported (single page)) = page-first slot page.kind page.values
event-first slot (almanacs set) = first-is (codes "als") _ (word (codes "als") refl refl)

pub event-verb : (n t slot : ℕ) (event : Event)
    → verb_of (for_client n (at_time t (event_text slot event))) ≡ event_verb event
event-verb n t slot event = verb-is n t (event_text slot event) ∙ event-first slot event

-- ---- the verbs of answers and ends, as marked by their number
abbrev answer_verb : Answer → List ℕ
answer_verb accepted = codes "ok"
answer_verb (refused n) = codes "err"
answer_verb (shown view) = codes "state"

view-first : (slot : ℕ) (view : View)
    → first-of (words_of (view_text slot view)) ≡ Some (codes "state")
view-first slot idle = first-is (codes "state") _ (word (codes "state") refl refl)
view-first slot (acquiring prn done cells) =
    first-is (codes "state") _ (word (codes "state") refl refl)
view-first slot (holding prn dumps) = first-is (codes "state") _ (word (codes "state") refl refl)
view-first slot (tracking prn dumps shift is_locked has_edge) =
    first-is (codes "state") _ (word (codes "state") refl refl)

answer-first : (slot : ℕ) (answer : Answer)
    → first-of (words_of (answer_text slot answer)) ≡ Some (answer_verb answer)
unfolding answer_text
answer-first slot accepted = sole-is (codes "ok") (word (codes "ok") refl refl)
answer-first slot (refused n) = first-is (codes "err") _ (word (codes "err") refl refl)
answer-first slot (shown view) = view-first slot view

abbrev pub IsAnswerVerb : Option (List ℕ) → Type 0
IsAnswerVerb verb =
    (verb ≡ Some (codes "ok")) ⊎ ((verb ≡ Some (codes "err")) ⊎ (verb ≡ Some (codes "state")))

answer-verbs : (answer : Answer) → IsAnswerVerb (Some (answer_verb answer))
answer-verbs accepted = inl refl
answer-verbs (refused n) = inr (inl refl)
answer-verbs (shown view) = inr (inr refl)

pub reply-verb : (n t : ℕ) (settings : Settings) (xs : List Sample) (before : List Entry)
    (what : Result Command ℕ)
    → IsAnswerVerb (verb_of (for_client n (at_time t (reply_text settings xs before what))))
reply-verb n t settings xs before (Ok c) =
    let a : Answer = answer_at_end settings xs _ c.request in
    let e : verb_of (for_client n (at_time t (reply_text settings xs before (Ok c))))
    ≡ Some (answer_verb a) = verb-is n t (answer_text c.slot a) ∙ answer-first c.slot a in
    rw e (answer-verbs a)
reply-verb n t settings xs before (Err refusal) =
    inr (inl (verb-is n t (refusal_text refusal)
    ∙ first-is (codes "err") _ (word (codes "err") refl refl)))

pub end-verb : (n : ℕ) (xs : List Sample)
    → verb_of (for_client n (end_line xs)) ≡ Some (codes "end")
end-verb n xs =
    verb-is n (length xs) (codes "end") ∙ sole-is (codes "end") (word (codes "end") refl refl)
