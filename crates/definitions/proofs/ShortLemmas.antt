-- A line of the text has at most 1,024 bytes.
use Rattle.std.proofs.Common.{inl, inr, ◌≡◌, ℕ, ◌+◌, ◌≤◌, List, [], ◌∷◌, length, map, refl, ap, ◌∙◌}
use Rattle.std.proofs.Common.{arith, length-append}
use Rattle.std.specs.Prelude.{Bool, true, Option, Some, None, Result, Ok, Err, nat_le, codes}
use Rattle.std.specs.Prelude.{if◌then◌else◌, take}
use Rattle.std.specs.List.{AllByRecursion}
use Rattle.std.specs.Fmt.{decimal, signed_decimal}
use Rattle.std.specs.Int.{bytes_high_first}
use Rattle.std.proofs.lemmas.Bool.{leb-true}
use Rattle.definitions.specs.Samples.{Sample}
use Rattle.definitions.specs.Oscillators.{Settings}
use Rattle.definitions.specs.Correlation.{Counts}
use Rattle.definitions.specs.Commands.{Command}
use Rattle.definitions.specs.Scripts.{Entry}
use Rattle.definitions.specs.Frames.{Subframe, subframe_at, id_of, tow_of}
use Rattle.definitions.specs.Lives.{Life}
use Rattle.definitions.specs.Events.{Event, acquired, count, locked, unlocked, signal_lost, edge}
use Rattle.definitions.specs.Events.{gap, subframe, reported, almanacs}
use Rattle.definitions.specs.Answers.{View, idle, acquiring, holding, tracking, Answer, accepted}
use Rattle.definitions.specs.Answers.{refused, shown, answer_at_end}
use Rattle.definitions.specs.Texts.{words_text, word_text, counts_texts, event_text, view_text}
use Rattle.definitions.specs.Texts.{refusal_text, answer_text, at_time, for_client}
use Rattle.definitions.specs.Receiver.{entries_of, reply_text}
use Rattle.definitions.specs.EventLaws.{bits_so_far, IsSubframe, IsOfLife}
use Rattle.definitions.specs.PrintedLaws.{IsOneOf, LinesAreShort}
use Rattle.definitions.proofs.PrintedLemmas.{lines-come}
use Rattle.definitions.proofs.LengthLemmas.{length-if, decimal-length, size, size-none, size-word}
use Rattle.definitions.proofs.LengthLemmas.{size-written, size-map, length-hex}
use Rattle.definitions.proofs.PageTextLemmas.{spaced-short, number, integer, report-short}
use Rattle.definitions.proofs.PageTextLemmas.{set-short}

-- ---- events
word-short : (w : Option ℕ) → length (word_text w) ≤ 6
word-short None = leb-true (length (codes "------")) 6 refl
word-short (Some word) =
    let hex = length-hex (bytes_high_first 3 word) in
    let three : length (bytes_high_first 3 word) ≡ 3 = refl in omega (arith, hex, three)

words-short : (ws : List (Option ℕ)) → AllByRecursion (λ w. length (word_text w) ≤ 6) ws
words-short [] = tt
words-short (w ∷ ws) = (word-short w, words-short ws)

ten-words : (bits : List Bool) (n : ℕ) → length (subframe_at bits n).words ≡ 10
unfolding subframe_at
ten-words bits n = refl

subframe-short : (slot : ℕ) (bits : List Bool) (s : Subframe) → IsSubframe bits s
    → length (event_text slot (subframe s)) ≤ 880
unfolding event_text
subframe-short slot bits s (n, two, ends, is, pass) =
    let list = size-map word_text 6 s.words (words-short s.words) in
    let ten : length s.words ≡ 10 = ap (λ (x : Subframe). length x.words) is ∙ ten-words bits n in
    spaced-short (11 + (65 + (65 + (65 + 70)))) 880
    (codes "sub" ∷ decimal slot ∷ decimal (id_of s) ∷ decimal (tow_of s) ∷ map word_text
    s.words)
    (size-written (65 + (65 + (65 + 70))) (codes "sub") _ refl
    (number (65 + (65 + 70)) slot
    _ (number (65 + 70) (id_of s) _ (number 70 (tow_of s) _ (omega (arith, list, ten))))))
    (omega arith)

named-short : (name : List ℕ) (slot : ℕ) → nat_le (length name) 10 ≡ true
    → length (words_text (name ∷ decimal slot ∷ [])) ≤ 880
named-short name slot short =
    spaced-short (11 + (65 + 0)) 880 (name ∷ decimal slot ∷ [])
    (size-written (65 + 0) name _ short (number 0 slot [] size-none)) (omega arith)

counts-size : (c : Counts) → size (counts_texts c) ≤ 66 + (66 + (66 + (66 + (66 + (66 + 0)))))
counts-size c =
    integer _ c.ie _ (integer _ c.qe
    _ (integer _ c.ip _ (integer _ c.qp _ (integer _ c.il _ (integer 0 c.ql [] size-none)))))

event-short : (settings : Settings) (xs : List Sample) (life : Life) (slot : ℕ) (event : Event)
    → IsOfLife settings xs life event → length (event_text slot event) ≤ 880
unfolding event_text
event-short settings xs life slot (acquired prn cell) is =
    spaced-short (11 + (65 + (65 + (11 + (66 + (65 + (65 + 0))))))) 880
    (codes "acq" ∷ decimal slot ∷ decimal
    prn ∷ (if cell.found then codes "found" else codes "none") ∷ signed_decimal
    cell.bin ∷ decimal cell.half_chip ∷ decimal cell.power ∷ [])
    (size-written _ (codes "acq") _ refl
    (number _ slot _ (number _ prn
    _ (size-word 10 _ (if cell.found then codes "found" else codes "none")
    _ (length-if cell.found (codes "found") (codes "none") 10
    (leb-true (length (codes "found")) 10 refl)
    (leb-true (length (codes "none")) 10 refl))
    (integer _ cell.bin
    _ (number _ cell.half_chip _ (number 0 cell.power [] size-none)))))))
    (omega arith)
event-short settings xs life slot (count c) is =
    spaced-short (11 + (65 + (66 + (66 + (66 + (66 + (66 + (66 + 0)))))))) 880
    (codes "count" ∷ decimal slot ∷ counts_texts c)
    (size-written _ (codes "count") _ refl (number _ slot _ (counts-size c))) (omega arith)
event-short settings xs life slot locked is = named-short (codes "lock") slot refl
event-short settings xs life slot unlocked is = named-short (codes "unlock") slot refl
event-short settings xs life slot signal_lost is = named-short (codes "lost") slot refl
event-short settings xs life slot edge is = named-short (codes "bits") slot refl
event-short settings xs life slot (gap n) is =
    spaced-short (11 + (65 + (65 + 0))) 880 (codes "gap" ∷ decimal slot ∷ decimal n ∷ [])
    (size-written _ (codes "gap") _ refl (number _ slot _ (number 0 n [] size-none)))
    (omega arith)
event-short settings xs life slot (subframe s) is =
    subframe-short slot (bits_so_far settings xs life) s is
event-short settings xs life slot (reported r) is =
    report-short slot (bits_so_far settings xs life) r is
event-short settings xs life slot (almanacs set) is =
    set-short slot (bits_so_far settings xs life) set is.0

-- ---- answers
view-short : (slot : ℕ) (view : View) → length (view_text slot view) ≤ 880
view-short slot idle =
    spaced-short (11 + (65 + (11 + 0))) 880 (codes "state" ∷ decimal slot ∷ codes "idle" ∷ [])
    (size-written _ (codes "state") _ refl
    (number _ slot _ (size-written 0 (codes "idle") [] refl size-none))) (omega arith)
view-short slot (acquiring prn done cells) =
    spaced-short (11 + (65 + (11 + (65 + (65 + (65 + 0)))))) 880
    (codes "state" ∷ decimal slot ∷ codes "acquire" ∷ decimal prn ∷ decimal done ∷ decimal
    cells ∷ [])
    (size-written _ (codes "state") _ refl
    (number _ slot _ (size-written _ (codes "acquire") _ refl
    (number _ prn _ (number _ done _ (number 0 cells [] size-none)))))) (omega arith)
view-short slot (holding prn dumps) =
    spaced-short (11 + (65 + (11 + (65 + (65 + 0))))) 880
    (codes "state" ∷ decimal slot ∷ codes "hold" ∷ decimal prn ∷ decimal dumps ∷ [])
    (size-written _ (codes "state") _ refl
    (number _ slot _ (size-written _ (codes "hold") _ refl
    (number _ prn _ (number 0 dumps [] size-none))))) (omega arith)
view-short slot (tracking prn dumps shift is_locked has_edge) =
    let mode : List ℕ =
    if has_edge then codes "bits" else if is_locked then codes "lock" else codes "open" in
    let short : length mode ≤ 10 =
    length-if has_edge (codes "bits") (if is_locked then codes "lock" else codes "open") 10
    (leb-true (length (codes "bits")) 10 refl)
    (length-if is_locked (codes "lock") (codes "open") 10
    (leb-true (length (codes "lock")) 10 refl)
    (leb-true (length (codes "open")) 10 refl)) in
    spaced-short (11 + (65 + (11 + (65 + (65 + (66 + (66 + (11 + 0)))))))) 880
    (codes "state" ∷ decimal slot ∷ codes "track" ∷ decimal prn ∷ decimal dumps ∷ signed_decimal
    shift.v ∷ signed_decimal shift.w ∷ mode ∷ [])
    (size-written _ (codes "state") _ refl
    (number _ slot _ (size-written _ (codes "track") _ refl
    (number _ prn _ (number _ dumps
    _ (integer _ shift.v
    _ (integer _ shift.w _ (size-word 10 0 mode [] short size-none))))))))
    (omega arith)

refusal-short : (n : ℕ) → length (refusal_text n) ≤ 880
refusal-short n = named-short (codes "err") n refl

answer-short : (slot : ℕ) (answer : Answer) → length (answer_text slot answer) ≤ 880
unfolding answer_text
answer-short slot accepted = leb-true (length (codes "ok")) 880 refl
answer-short slot (refused n) = refusal-short n
answer-short slot (shown view) = view-short slot view

reply-short : (settings : Settings) (xs : List Sample) (before : List Entry)
    (what : Result Command ℕ) → length (reply_text settings xs before what) ≤ 880
reply-short settings xs before (Ok c) = answer-short c.slot (answer_at_end settings xs _ c.request)
reply-short settings xs before (Err refusal) = refusal-short refusal

-- ---- lines
line-short : (n t : ℕ) (text : List ℕ) → length text ≤ 880
    → length (for_client n (at_time t text)) ≤ 1024
line-short n t text h =
    let a = length-append (decimal n) (32 ∷ at_time t text) in
    let b = length-append (decimal t) (32 ∷ text) in
    let c = decimal-length n in
    let d = decimal-length t in
    omega (arith, a, b, c, d, h)

pub lines-short : LinesAreShort
lines-short settings clients xs i line there =
    by_kind (lines-come settings clients xs i line there)
  where
    moved : (l : List ℕ) → line ≡ l → length l ≤ 1024 → length line ≤ 1024
    moved l e h = rw e h

    by_kind : IsOneOf settings clients xs line → length line ≤ 1024
    by_kind (inl (event, (t, k, slot, client, in_time, tells, is))) =
        moved _ is (line-short (1 + k) t (event_text slot event)
        (event-short settings (take t xs) (tells.is_right).0 slot event (tells.is_right).2))
    by_kind (inr (inl (k, i, client, entry, a, b, c, is))) =
        moved _ is (line-short (1 + k) entry.time
        (reply_text settings (take entry.time xs) (take i (entries_of client))
        entry.what) (reply-short settings (take entry.time xs)
        (take i (entries_of client)) entry.what))
    by_kind (inr (inr (k, below, is))) =
        moved _ is (line-short (1 + k) (length xs) (codes "end")
        (leb-true (length (codes "end")) 880 refl))
