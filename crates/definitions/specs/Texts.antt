-- The texts of printed lines. (This project's own.)
use Rattle.std.specs.Prelude.{ℕ, ◌/◌, ◌%◌, false, if◌then◌else◌, ℤ, List, [], ◌∷◌, ◌++◌, map}
use Rattle.std.specs.Prelude.{flat_map, zip, Option, Some, None, codes}
use Rattle.std.specs.List.{join_with_byte}
use Rattle.std.specs.Fmt.{decimal, signed_decimal, digit_glyph}
use Rattle.std.specs.Int.{bytes_high_first}
use Rattle.definitions.specs.Sums.{natural}
use Rattle.definitions.specs.Correlation.{Counts}
use Rattle.definitions.specs.Frames.{id_of, tow_of}
use Rattle.definitions.specs.Pages.{clock, eph2, eph3, almanac, utc, health, message, Page}
use Rattle.definitions.specs.Pages.{fields_of}
use Rattle.definitions.specs.Fields.{Field, clock_fields, eph2_fields, eph3_fields}
use Rattle.definitions.specs.DataSets.{Report, ephemeris, single, AlmanacSet}
use Rattle.definitions.specs.Events.{Event, acquired, count, locked, unlocked, signal_lost, edge}
use Rattle.definitions.specs.Events.{gap, subframe, reported, almanacs}
use Rattle.definitions.specs.Answers.{View, idle, acquiring, holding, tracking, Answer, accepted}
use Rattle.definitions.specs.Answers.{refused, shown}

-- words with one space between each two
abbrev pub words_text : List (List ℕ) → List ℕ
words_text words = join_with_byte 32 words

-- two lower case hexadecimal digits for each byte
abbrev pub hex_of_bytes : List ℕ → List ℕ
hex_of_bytes bytes = flat_map (λ b. digit_glyph false (b / 16) ∷ digit_glyph false (b % 16)
    ∷ []) bytes

abbrev pub word_text : Option ℕ → List ℕ
word_text None = codes "------"
word_text (Some word) = hex_of_bytes (bytes_high_first 3 word)

-- a field: its name, its whole number and the power of two of its unit
abbrev pub field_text : Field → ℤ → List ℕ
field_text f value = f.name ++ codes "=" ++ signed_decimal value ++ codes ":"
    ++ signed_decimal f.exponent

abbrev pub field_texts : List Field → List ℤ → List (List ℕ)
field_texts fields values = map (λ (field, value). field_text field value) (zip fields values)

abbrev pub counts_texts : Counts → List (List ℕ)
counts_texts c = map signed_decimal (c.ie ∷ c.qe ∷ c.ip ∷ c.qp ∷ c.il ∷ c.ql ∷ [])

unfoldable pub page_text : ℕ → Page → List ℕ
page_text slot page = elim page.kind [
  | almanac ↦ words_text
      (codes "alm" ∷ decimal slot ∷ field_texts (fields_of page.kind) page.values)
  | utc ↦ words_text (codes "utc" ∷ decimal slot ∷ field_texts (fields_of page.kind) page.values)
  | health ↦ words_text (codes "hlt" ∷ decimal slot ∷ field_texts (fields_of page.kind) page.values)
  | message ↦ words_text (codes "msg" ∷ decimal slot ∷ hex_of_bytes (map natural page.values) ∷ [])
  | clock ↦ []
  | eph2 ↦ []
  | eph3 ↦ []
]

abbrev pub report_text : ℕ → Report → List ℕ
report_text slot (ephemeris values) =
    words_text (codes "eph" ∷ decimal slot
    ∷ field_texts (clock_fields ++ eph2_fields ++ eph3_fields) values)
report_text slot (single page) = page_text slot page

-- a set of almanacs: the time of applicability, in units of 2 to the power of 12 seconds, and 32
-- health values
abbrev pub almanacs_text : ℕ → AlmanacSet → List ℕ
almanacs_text slot set =
    words_text (codes "als" ∷ decimal slot ∷ (codes "toa=" ++ signed_decimal set.toa ++ codes ":12")
    ∷ map signed_decimal set.health)

-- what a slot emits
unfoldable pub event_text : ℕ → Event → List ℕ
event_text slot (acquired prn cell) =
    words_text (codes "acq" ∷ decimal slot ∷ decimal prn ∷ (if cell.found then codes "found"
    else codes "none") ∷ signed_decimal cell.bin ∷ decimal cell.half_chip ∷ decimal cell.power ∷ [])
event_text slot (count c) = words_text (codes "count" ∷ decimal slot ∷ counts_texts c)
event_text slot locked = words_text (codes "lock" ∷ decimal slot ∷ [])
event_text slot unlocked = words_text (codes "unlock" ∷ decimal slot ∷ [])
event_text slot signal_lost = words_text (codes "lost" ∷ decimal slot ∷ [])
event_text slot edge = words_text (codes "bits" ∷ decimal slot ∷ [])
event_text slot (gap n) = words_text (codes "gap" ∷ decimal slot ∷ decimal n ∷ [])
event_text slot (subframe s) =
    words_text (codes "sub" ∷ decimal slot ∷ decimal (id_of s) ∷ decimal (tow_of s)
    ∷ map word_text s.words)
event_text slot (reported r) = report_text slot r
event_text slot (almanacs set) = almanacs_text slot set

abbrev pub view_text : ℕ → View → List ℕ
view_text slot idle = words_text (codes "state" ∷ decimal slot ∷ codes "idle" ∷ [])
view_text slot (acquiring prn done cells) =
    words_text (codes "state" ∷ decimal slot ∷ codes "acquire" ∷ decimal prn ∷ decimal done
    ∷ decimal cells ∷ [])
view_text slot (holding prn dumps) =
    words_text (codes "state" ∷ decimal slot ∷ codes "hold" ∷ decimal prn ∷ decimal dumps ∷ [])
view_text slot (tracking prn dumps shift is_locked has_edge) =
    words_text (codes "state" ∷ decimal slot ∷ codes "track" ∷ decimal prn ∷ decimal dumps
    ∷ signed_decimal shift.v ∷ signed_decimal shift.w ∷ (if has_edge then codes "bits"
    else if is_locked then codes "lock" else codes "open") ∷ [])

abbrev pub refusal_text : ℕ → List ℕ
refusal_text n = words_text (codes "err" ∷ decimal n ∷ [])

-- what a slot answers
unfoldable pub answer_text : ℕ → Answer → List ℕ
answer_text slot accepted = codes "ok"
answer_text slot (refused n) = refusal_text n
answer_text slot (shown view) = view_text slot view

-- a text after its time
abbrev pub at_time : ℕ → List ℕ → List ℕ
at_time time text = decimal time ++ 32 ∷ text

-- a line after the number of its client
abbrev pub for_client : ℕ → List ℕ → List ℕ
for_client client line = decimal client ++ 32 ∷ line
