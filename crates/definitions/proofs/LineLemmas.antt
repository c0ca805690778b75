-- No line that is written has a line feed in it, so the lines of the text are the lines that were
-- put into it.
use Rattle.std.proofs.Common.{inl, ◌≡◌, ℕ, ◌+◌, List, ◌∷◌, [], ◌++◌, length, take}
use Rattle.std.proofs.Common.{refl, arith, ap, ◌∙◌, true}
use Rattle.std.specs.Prelude.{Bool, ℤ, nat_eq, map, flat_map, codes}
use Rattle.std.specs.Prelude.{Option, Some, None, Result, Ok, Err, if◌then◌else◌}
use Rattle.std.specs.List.{AllByRecursion, list_all, range_with_len, enumerate_from}
use Rattle.std.specs.Fmt.{decimal, signed_decimal, digits}
use Rattle.std.specs.Int.{bytes_high_first}
use Rattle.std.proofs.lemmas.Bool.{and_parts}
use Rattle.std.proofs.lemmas.List.{append_assoc}
use Rattle.definitions.specs.Sums.{natural}
use Rattle.definitions.specs.Samples.{Sample}
use Rattle.definitions.specs.Oscillators.{Settings}
use Rattle.definitions.specs.Frames.{id_of, tow_of}
use Rattle.definitions.specs.Fields.{Field, clock_fields, eph2_fields, eph3_fields}
use Rattle.definitions.specs.Pages.{Kind, clock, eph2, eph3, almanac, utc, health, message}
use Rattle.definitions.specs.Pages.{fields_of}
use Rattle.definitions.specs.DataSets.{Report, ephemeris, single, AlmanacSet}
use Rattle.definitions.specs.Commands.{Command}
use Rattle.definitions.specs.Lines.{pieces_ended_by, lines_of, as_bytes, ended_line}
use Rattle.definitions.specs.Scripts.{Entry}
use Rattle.definitions.specs.Events.{Event, acquired, count, locked, unlocked, signal_lost, edge}
use Rattle.definitions.specs.Events.{gap, subframe, reported, almanacs}
use Rattle.definitions.specs.Answers.{View, idle, acquiring, holding, tracking, Answer, accepted}
use Rattle.definitions.specs.Answers.{refused, shown, answer_at_end}
use Rattle.definitions.specs.Texts.{words_text, hex_of_bytes, word_text, field_text, field_texts}
use Rattle.definitions.specs.Texts.{counts_texts, page_text, report_text, almanacs_text, event_text}
use Rattle.definitions.specs.Texts.{view_text, refusal_text, answer_text, at_time, for_client}
use Rattle.definitions.specs.Receiver.{Client, entries_of, event_texts, slot_event_texts}
use Rattle.definitions.specs.Receiver.{answer_texts, entry_answer_texts, reply_text, at_each_time}
use Rattle.definitions.specs.Receiver.{timed_texts, for_each_client, lines_at, event_lines}
use Rattle.definitions.proofs.MarkLemmas.{IsMark, IsOther, Without, is_without, all-append}
use Rattle.definitions.proofs.MarkLemmas.{all-flat_map, by_if, written, without-append}
use Rattle.definitions.proofs.MarkLemmas.{decimal-without, signed-without, hex-without, first-piece}
use Rattle.definitions.specs.Receiver.{answer_lines, body_lines, end_lines, full_lines, end_line}

-- ---- lists

all-map : {A B : Type 0} (P : A → Type 0) (f : B → A) (xs : List B) → ((x : B) → P (f x))
    → AllByRecursion P (map f xs)
all-map P f [] h = tt
all-map P f (x ∷ xs) h = (h x, all-map P f xs h)

-- ---- texts of one line

abbrev OneLine : List ℕ → Type 0
OneLine text = Without 10 text

abbrev OneLines : List (List ℕ) → Type 0
OneLines lines = AllByRecursion OneLine lines

feed : IsMark 10
feed = inl (omega arith)

-- a text that is written out
verbatim : (text : List ℕ) → is_without 10 text ≡ true → OneLine text
verbatim text e = written 10 text e

line-append : (s t : List ℕ) → OneLine s → OneLine t → OneLine (s ++ t)
line-append s t hs ht = without-append 10 s t hs ht

decimal-line : (n : ℕ) → OneLine (decimal n)
decimal-line n = decimal-without 10 feed n

signed-line : (z : ℤ) → OneLine (signed_decimal z)
signed-line z = signed-without 10 feed z

hex-line : (bytes : List ℕ) → OneLine (hex_of_bytes bytes)
hex-line bytes = hex-without 10 feed bytes

spaced-line : (words : List (List ℕ)) → OneLines words → OneLine (words_text words)
unfolding Without IsOther
spaced-line [] h = tt
spaced-line (w ∷ []) h = h.0
spaced-line (w ∷ v ∷ words) h =
    all-append (IsOther 10) w (32 ∷ words_text (v ∷ words)) h.0 (refl, spaced-line (v ∷ words) h.1)

word-line : (word : Option ℕ) → OneLine (word_text word)
word-line None = verbatim (codes "------") refl
word-line (Some word) = hex-line (bytes_high_first 3 word)

field-line : (f : Field) (value : ℤ) → OneLine f.name → OneLine (field_text f value)
field-line f value h =
    let equals : OneLine (f.name ++ codes "=") =
    line-append f.name (codes "=") h (verbatim (codes "=") refl) in
    let valued : OneLine (f.name ++ codes "=" ++ signed_decimal value) =
    line-append (f.name ++ codes "=") (signed_decimal value) equals (signed-line value) in
    let colon : OneLine (f.name ++ codes "=" ++ signed_decimal value ++ codes ":") =
    line-append (f.name ++ codes "=" ++ signed_decimal value) (codes ":") valued
    (verbatim (codes ":") refl) in
    line-append (f.name ++ codes "=" ++ signed_decimal value ++ codes ":")
    (signed_decimal f.exponent) colon (signed-line f.exponent)

-- the names in the tables
abbrev have_names : List Field → Bool
have_names fields = list_all (λ (f : Field). is_without 10 f.name) fields

fields-lines : (fields : List Field) (values : List ℤ) → have_names fields ≡ true
    → OneLines (field_texts fields values)
fields-lines [] values e = tt
fields-lines (f ∷ fields) [] e = tt
fields-lines (f ∷ fields) (v ∷ values) e =
    let both = and_parts (is_without 10 f.name) (have_names fields) e in
    (field-line f v (verbatim f.name both.0), fields-lines fields values both.1)

-- a text of words, the second of them a number
named-line : (name : List ℕ) (slot : ℕ) (words : List (List ℕ)) → OneLine name → OneLines words
    → OneLine (words_text (name ∷ decimal slot ∷ words))
named-line name slot words h ws =
    spaced-line (name ∷ decimal slot ∷ words) (h, (decimal-line slot, ws))

kind-line : (slot : ℕ) (kind : Kind) (values : List ℤ)
    → OneLine (page_text slot (record { kind = kind; values = values }))
unfolding page_text digits Without
kind-line slot clock values = tt
kind-line slot eph2 values = tt
kind-line slot eph3 values = tt
kind-line slot almanac values =
    named-line (codes "alm") slot (field_texts (fields_of almanac) values)
    (verbatim (codes "alm") refl) (fields-lines (fields_of almanac) values refl)
kind-line slot utc values =
    named-line (codes "utc") slot (field_texts (fields_of utc) values) (verbatim (codes "utc") refl)
    (fields-lines (fields_of utc) values refl)
kind-line slot health values =
    named-line (codes "hlt") slot (field_texts (fields_of health) values)
    (verbatim (codes "hlt") refl) (fields-lines (fields_of health) values refl)
kind-line slot message values =
    named-line (codes "msg") slot (hex_of_bytes (map natural values) ∷ [])
    (verbatim (codes "msg") refl) (hex-line (map natural values), tt)

report-line : (slot : ℕ) (report : Report) → OneLine (report_text slot report)
report-line slot (ephemeris values) =
    named-line (codes "eph") slot (field_texts (clock_fields ++ eph2_fields ++ eph3_fields) values)
    (verbatim (codes "eph") refl)
    (fields-lines (clock_fields ++ eph2_fields ++ eph3_fields) values refl)
report-line slot (single page) = kind-line slot page.kind page.values

almanacs-line : (slot : ℕ) (set : AlmanacSet) → OneLine (almanacs_text slot set)
almanacs-line slot set =
    named-line (codes "als") slot
    ((codes "toa=" ++ signed_decimal set.toa ++ codes ":12") ∷ map signed_decimal set.health)
    (verbatim (codes "als") refl) (
      line-append (codes "toa=" ++ signed_decimal set.toa) (codes ":12")
          (line-append (codes "toa=") (signed_decimal set.toa) (verbatim (codes "toa=") refl)
          (signed-line set.toa)) (verbatim (codes ":12") refl),
      all-map OneLine signed_decimal set.health signed-line,
    )

-- what a slot emits, whatever it is
pub event-line : (slot : ℕ) (event : Event) → OneLine (event_text slot event)
unfolding event_text
event-line slot (acquired prn cell) =
    named-line (codes "acq") slot
    (decimal prn ∷ (if cell.found then codes "found" else codes "none") ∷ signed_decimal
    cell.bin ∷ decimal cell.half_chip ∷ decimal cell.power ∷ [])
    (verbatim (codes "acq") refl) (
      decimal-line prn,
      (
        by_if OneLine cell.found (codes "found") (codes "none") (verbatim (codes "found") refl)
            (verbatim (codes "none") refl),
        (signed-line cell.bin, (decimal-line cell.half_chip, (decimal-line cell.power, tt))),
      ),
    )
event-line slot (count c) =
    named-line (codes "count") slot (counts_texts c) (verbatim (codes "count") refl)
    (all-map OneLine signed_decimal (c.ie ∷ c.qe ∷ c.ip ∷ c.qp ∷ c.il ∷ c.ql ∷ []) signed-line)
event-line slot locked = named-line (codes "lock") slot [] (verbatim (codes "lock") refl) tt
event-line slot unlocked = named-line (codes "unlock") slot [] (verbatim (codes "unlock") refl) tt
event-line slot signal_lost = named-line (codes "lost") slot [] (verbatim (codes "lost") refl) tt
event-line slot edge = named-line (codes "bits") slot [] (verbatim (codes "bits") refl) tt
event-line slot (gap n) =
    named-line (codes "gap") slot (decimal n ∷ []) (verbatim (codes "gap") refl)
    (decimal-line n, tt)
event-line slot (subframe s) =
    named-line (codes "sub") slot (decimal (id_of s) ∷ decimal (tow_of s) ∷ map word_text s.words)
    (verbatim (codes "sub") refl) (
      decimal-line (id_of s),
      (decimal-line (tow_of s), all-map OneLine word_text s.words word-line),
    )
event-line slot (reported r) = report-line slot r
event-line slot (almanacs set) = almanacs-line slot set

view-line : (slot : ℕ) (view : View) → OneLine (view_text slot view)
view-line slot idle =
    named-line (codes "state") slot (codes "idle" ∷ []) (verbatim (codes "state") refl)
    (verbatim (codes "idle") refl, tt)
view-line slot (acquiring prn done cells) =
    named-line (codes "state") slot
    (codes "acquire" ∷ decimal prn ∷ decimal done ∷ decimal cells ∷ [])
    (verbatim (codes "state") refl) (
      verbatim (codes "acquire") refl,
      (decimal-line prn, (decimal-line done, (decimal-line cells, tt))),
    )
view-line slot (holding prn dumps) =
    named-line (codes "state") slot (codes "hold" ∷ decimal prn ∷ decimal dumps ∷ [])
    (verbatim (codes "state") refl)
    (verbatim (codes "hold") refl, (decimal-line prn, (decimal-line dumps, tt)))
view-line slot (tracking prn dumps shift is_locked has_edge) =
    named-line (codes "state") slot
    (codes "track" ∷ decimal prn ∷ decimal dumps ∷ signed_decimal shift.v ∷ signed_decimal
    shift.w ∷ (if has_edge then codes "bits" else if is_locked then codes "lock" else codes
    "open") ∷ []) (verbatim (codes "state") refl) (
      verbatim (codes "track") refl,
      (
        decimal-line prn,
        (
          decimal-line dumps,
          (
            signed-line shift.v,
            (
              signed-line shift.w,
              (
                by_if OneLine has_edge (codes "bits")
                    (if is_locked then codes "lock" else codes "open")
                    (verbatim (codes "bits") refl)
                    (by_if OneLine is_locked (codes "lock") (codes "open")
                    (verbatim (codes "lock") refl) (verbatim (codes "open") refl)),
                tt,
              ),
            ),
          ),
        ),
      ),
    )

refusal-line : (n : ℕ) → OneLine (refusal_text n)
refusal-line n =
    spaced-line (codes "err" ∷ decimal n ∷ []) (verbatim (codes "err") refl, (decimal-line n, tt))

answer-line : (slot : ℕ) (answer : Answer) → OneLine (answer_text slot answer)
unfolding answer_text
answer-line slot accepted = verbatim (codes "ok") refl
answer-line slot (refused n) = refusal-line n
answer-line slot (shown view) = view-line slot view

-- ---- all lines of a receiver

timed-line : (time : ℕ) (text : List ℕ) → OneLine text → OneLine (at_time time text)
unfolding Without IsOther
timed-line time text h = line-append (decimal time) (32 ∷ text) (decimal-line time) (refl, h)

client-line : (client : ℕ) (line : List ℕ) → OneLine line → OneLine (for_client client line)
unfolding Without IsOther
client-line client line h = line-append (decimal client) (32 ∷ line) (decimal-line client) (refl, h)

map-lines : (f : List ℕ → List ℕ) (lines : List (List ℕ))
    → ((line : List ℕ) → OneLine line → OneLine (f line)) → OneLines lines → OneLines (map f lines)
map-lines f [] keeps h = tt
map-lines f (l ∷ ls) keeps h = (keeps l h.0, map-lines f ls keeps h.1)

reply-line : (settings : Settings) (xs : List Sample) (before : List Entry)
    (what : Result Command ℕ) → OneLine (reply_text settings xs before what)
reply-line settings xs before (Ok c) = answer-line c.slot (answer_at_end settings xs _ c.request)
reply-line settings xs before (Err refusal) = refusal-line refusal

told-lines : (settings : Settings) (client : Client) (xs : List Sample)
    → OneLines (event_texts settings client xs)
unfolding event_texts
told-lines settings client xs =
    all-flat_map OneLine (slot_event_texts settings xs (entries_of client))
    (range_with_len 0 client.slots)
    (λ slot. all-map OneLine (event_text slot) _ (event-line slot))

answered-lines : (settings : Settings) (client : Client) (xs : List Sample)
    → OneLines (answer_texts settings client xs)
unfolding answer_texts
answered-lines settings client xs =
    all-flat_map OneLine (entry_answer_texts settings xs (entries_of client))
    (enumerate_from 0 (entries_of client))
    (λ (p : ℕ × Entry). by_if OneLines (nat_eq (p.1).time (length xs))
    (reply_text settings xs (take p.0 (entries_of client)) (p.1).what ∷ []) []
    (reply-line settings xs (take p.0 (entries_of client)) (p.1).what, tt) tt)

timed-lines : (xs : List Sample) (texts : List (List ℕ)) → OneLines texts
    → OneLines (timed_texts xs texts)
timed-lines xs texts h = map-lines (at_time (length xs)) texts (timed-line (length xs)) h

each-lines : (lines : Client → List (List ℕ)) (clients : List Client)
    → ((client : Client) → OneLines (lines client)) → OneLines (for_each_client lines clients)
unfolding for_each_client
each-lines lines clients h =
    all-flat_map OneLine (λ (p : ℕ × Client). map (for_client p.0) (lines p.1))
    (enumerate_from 1 clients)
    (λ (p : ℕ × Client). map-lines (for_client p.0) (lines p.1) (client-line p.0) (h p.1))

pub body-lines : (settings : Settings) (xs : List Sample)
    (clients : List Client) → OneLines (body_lines settings xs clients)
unfolding body_lines at_each_time lines_at event_lines answer_lines
body-lines settings xs clients =
    all-flat_map OneLine (λ t. lines_at settings clients (take t xs))
    (range_with_len 0 (length xs + 1))
    (λ t. all-append OneLine
    (for_each_client
    (λ client. timed_texts (take t xs) (event_texts settings client (take t xs)))
    clients) (for_each_client
    (λ client. timed_texts (take t xs) (answer_texts settings client (take t xs)))
    clients)
    (each-lines (λ client. timed_texts (take t xs)
    (event_texts settings client (take t xs))) clients
    (λ client. timed-lines (take t xs) (event_texts settings client (take t xs))
    (told-lines settings client (take t xs))))
    (each-lines (λ client. timed_texts (take t xs)
    (answer_texts settings client (take t xs))) clients
    (λ client. timed-lines (take t xs) (answer_texts settings client (take t xs))
    (answered-lines settings client (take t xs)))))

pub full-lines : (settings : Settings) (xs : List Sample)
    (clients : List Client) → OneLines (full_lines settings xs clients)
unfolding full_lines end_lines
full-lines settings xs clients =
    all-append OneLine (body_lines settings xs clients) (end_lines xs clients)
    (body-lines settings xs clients)
    (each-lines (λ client. end_line xs ∷ []) clients
    (λ client. (timed-line (length xs) (codes "end") (verbatim (codes "end") refl), tt)))

-- ---- the lines of a text

-- lines without line feeds, as bytes, are found again
pub lines-as_bytes : (lines : List (List ℕ)) → OneLines lines → lines_of (as_bytes lines) ≡ lines
unfolding as_bytes pieces_ended_by
lines-as_bytes [] h = refl
lines-as_bytes (l ∷ ls) h =
    ap lines_of (append_assoc l (10 ∷ []) (flat_map ended_line ls))
    ∙ first-piece 10 l (flat_map ended_line ls) h.0 ∙ ap (λ r. l ∷ r) (lines-as_bytes ls h.1)
