-- The event of a line can be read from it, so no two events have one line.
use Rattle.std.proofs.Common.{inl, inr, ◌≡◌, ℕ, suc, ◌+◌, ◌*◌, ◌/◌, ◌%◌, ◌<◌, List, []}
use Rattle.std.proofs.Common.{◌∷◌, ◌++◌, length, refl, sym, ap, ◌∙◌, arith}
use Rattle.std.specs.Prelude.{◌&&◌, Bool, true, false, nat_eq, if◌then◌else◌, Option, Some, None}
use Rattle.std.specs.Prelude.{codes, ℤ, pos, negsuc, neg_ℤ, map, drop, get_or, bytes_eq}
use Rattle.std.specs.List.{AllByRecursion, list_all}
use Rattle.std.specs.Fmt.{decimal, signed_decimal, digits, digit_glyph}
use Rattle.std.specs.Char.{digit_value}
use Rattle.std.specs.Str.Parse.{digits_value, AllDigits}
use Rattle.std.specs.Int.{bytes_high_first}
use Rattle.std.proofs.lemmas.Bool.{ne_eqb, and_parts, eq-eqb}
use Rattle.std.proofs.lemmas.Bool.Decides.{nat_tests}
use Rattle.std.proofs.lemmas.List.{append_assoc}
use Rattle.std.proofs.lemmas.Fmt.{decimal_is_IsNumeral}
use Rattle.definitions.specs.Sums.{natural}
use Rattle.definitions.specs.Correlation.{Counts}
use Rattle.definitions.specs.Frames.{id_of, tow_of}
use Rattle.definitions.specs.Fields.{Field, clock_fields, eph2_fields, eph3_fields}
use Rattle.definitions.specs.Fields.{almanac_fields, utc_fields, health_fields}
use Rattle.definitions.specs.Pages.{Kind, clock, eph2, eph3, almanac, utc, health, message}
use Rattle.definitions.specs.DataSets.{ephemeris, single}
use Rattle.definitions.specs.Events.{Event, acquired, count, locked, unlocked, signal_lost, edge}
use Rattle.definitions.specs.Events.{gap, subframe, reported, almanacs}
use Rattle.definitions.specs.Lines.{words_of, pieces_ended_by}
use Rattle.definitions.specs.Texts.{words_text, hex_of_bytes, word_text, field_text, field_texts}
use Rattle.definitions.specs.Texts.{counts_texts, event_text, page_text}
use Rattle.definitions.specs.DistinctLaws.{IsShort, IsShortSigned, IsDataOfWord, IsCharacter}
use Rattle.definitions.specs.DistinctLaws.{ArePageValues, IsReadable, Origin, line_of, CanBeRead}
use Rattle.definitions.specs.DistinctLaws.{LinesAreDistinct}
use Rattle.definitions.proofs.MarkLemmas.{IsMark, IsOther, Without, is_without, written}
use Rattle.definitions.proofs.MarkLemmas.{without-append, signed-without, hex-without, by_if}
use Rattle.definitions.proofs.VerbLemmas.{IsWord, word, first-word, only-word, decimal-word}
use Rattle.definitions.proofs.VerbLemmas.{words-of-line}

-- ---- numbers

abbrev natural_in : List ℕ → ℕ
natural_in w = digits_value 10 w

abbrev signed_in : List ℕ → ℤ
signed_in [] = pos 0
signed_in (b ∷ w) =
    if nat_eq b 45 then neg_ℤ (pos (digits_value 10 w)) else pos (digits_value 10 (b ∷ w))

natural-back : (n : ℕ) → IsShort n → natural_in (decimal n) ≡ n
natural-back n short = (decimal_is_IsNumeral n short).1

-- digits have no minus before them
unsigned-back : (w : List ℕ) → AllDigits 10 w → signed_in w ≡ pos (digits_value 10 w)
unsigned-back [] d = refl
unsigned-back (b ∷ w) d = rw (ne_eqb b 45 (λ e. minus b e d.0)) refl
  where
    minus : (b : ℕ) → b ≡ 45 → digit_value b < 10 → ⊥
    minus b e d = omega (arith, rw e at d)

signed-back : (z : ℤ) → IsShortSigned z → signed_in (signed_decimal z) ≡ z
signed-back (pos n) short =
    let is = decimal_is_IsNumeral n (omega (arith, short)) in
    unsigned-back (decimal n) is.0.1 ∙ ap pos is.1
signed-back (negsuc n) short =
    ap (λ k. neg_ℤ (pos k)) (decimal_is_IsNumeral (suc n) (omega (arith, short))).1

all-signed-back : (zs : List ℤ) → AllByRecursion IsShortSigned zs
    → map signed_in (map signed_decimal zs) ≡ zs
all-signed-back [] h = refl
all-signed-back (z ∷ zs) h = rw (signed-back z h.0, all-signed-back zs h.1) refl

-- ---- hexadecimal

abbrev bytes_in : List ℕ → List ℕ
bytes_in [] = []
bytes_in (a ∷ []) = []
bytes_in (a ∷ b ∷ w) = (16 * digit_value a + digit_value b) ∷ bytes_in w

glyph-back : (d : ℕ) → d < 16 → digit_value (digit_glyph false d) ≡ d
glyph-back d small = grind (arith, nat_tests)

bytes-back : (bytes : List ℕ) → AllByRecursion (λ b. b < 256) bytes
    → bytes_in (hex_of_bytes bytes) ≡ bytes
bytes-back [] h = refl
bytes-back (b ∷ bytes) h =
    let small = h.0 in
    let whole : 16 * (b / 16) + b % 16 ≡ b = omega arith in
    rw (
      glyph-back (b / 16) (omega (arith, small)),
      glyph-back (b % 16) (omega arith),
      bytes-back bytes h.1,
      whole,
    ) refl

abbrev number_of_bytes : List ℕ → ℕ
number_of_bytes bytes = 65536 * get_or bytes 0 0 + 256 * get_or bytes 1 0 + get_or bytes 2 0

abbrev word_in : List ℕ → Option ℕ
word_in [] = None
word_in (b ∷ w) = if nat_eq b 45 then None else Some (number_of_bytes (bytes_in (b ∷ w)))

-- ---- what stands before a mark and after it

abbrev before : ℕ → List ℕ → List ℕ
before mark [] = []
before mark (b ∷ w) = if nat_eq b mark then [] else b ∷ before mark w

abbrev after : ℕ → List ℕ → List ℕ
after mark [] = []
after mark (b ∷ w) = if nat_eq b mark then w else after mark w

before-back : (mark : ℕ) (w rest : List ℕ) → Without mark w → before mark (w ++ mark ∷ rest) ≡ w
unfolding Without IsOther
before-back mark [] rest h = rw (eq-eqb mark mark refl) refl
before-back mark (b ∷ w) rest h = rw (h.0, before-back mark w rest h.1) refl

after-back : (mark : ℕ) (w rest : List ℕ) → Without mark w → after mark (w ++ mark ∷ rest) ≡ rest
unfolding Without IsOther
after-back mark [] rest h = rw (eq-eqb mark mark refl) refl
after-back mark (b ∷ w) rest h = rw (h.0, after-back mark w rest h.1) refl

-- the value in a name, `=`, the value, `:` and an exponent
abbrev value_in : List ℕ → ℤ
value_in w = signed_in (before 58 (after 61 w))

colon : IsMark 58
colon = inr (omega arith, omega arith)

valued-back : (name exponent : List ℕ) (z : ℤ) → Without 61 name → IsShortSigned z
    → value_in (name ++ codes "=" ++ signed_decimal z ++ codes ":" ++ exponent) ≡ z
valued-back name exponent z named short =
    let order : name ++ codes "=" ++ signed_decimal z ++ codes ":" ++ exponent
    ≡ name ++ 61 ∷ (signed_decimal z ++ 58 ∷ exponent) =
    append_assoc (name ++ codes "=" ++ signed_decimal z) (codes ":") exponent
    ∙ append_assoc (name ++ codes "=") (signed_decimal z) (58 ∷ exponent)
    ∙ append_assoc name (codes "=") (signed_decimal z ++ 58 ∷ exponent) in
    ap value_in order
    ∙ ap (λ (w : List ℕ). signed_in (before 58 w))
    (after-back 61 name (signed_decimal z ++ 58 ∷ exponent) named)
    ∙ ap signed_in (before-back 58 (signed_decimal z) exponent (signed-without 58 colon z))
    ∙ signed-back z short

-- a name has neither `=` nor a space
abbrev is_name : Field → Bool
is_name f = is_without 61 f.name && is_without 32 f.name

abbrev are_named : List Field → Bool
are_named fields = list_all is_name fields

values-back : (fields : List Field) (values : List ℤ) → are_named fields ≡ true
    → length values ≡ length fields → AllByRecursion IsShortSigned values
    → map value_in (field_texts fields values) ≡ values
values-back [] [] named e h = refl
values-back [] (z ∷ values) named e h = absurd (omega (arith, e))
values-back (f ∷ fields) [] named e h = absurd (omega (arith, e))
values-back (f ∷ fields) (z ∷ values) named e h =
    let both = and_parts (is_name f) (are_named fields) named in
    rw (
      valued-back f.name (signed_decimal f.exponent) z
          (written 61 f.name (and_parts (is_without 61 f.name) (is_without 32 f.name) both.0).0)
          h.0,
      values-back fields values both.1 (omega (arith, e)) h.1,
    ) refl

-- ---- words

abbrev pub IsWords : List (List ℕ) → Type 0
IsWords words = AllByRecursion IsWord words

pub words-back : (words : List (List ℕ)) → IsWords words → words_of (words_text words) ≡ words
unfolding pieces_ended_by
words-back [] h = refl
words-back (w ∷ []) h = only-word w h.0
words-back (w ∷ v ∷ words) h =
    first-word w (words_text (v ∷ words)) h.0
    ∙ ap (λ (ws : List (List ℕ)). w ∷ ws) (words-back (v ∷ words) h.1)

some-cons : (b : ℕ) (w : List ℕ) → nat_eq (length (b ∷ w)) 0 ≡ false
some-cons b w = ne_eqb (suc (length w)) 0 (λ e. omega (arith, e))

some-append : (s t : List ℕ) → nat_eq (length t) 0 ≡ false → nat_eq (length (s ++ t)) 0 ≡ false
some-append [] t some = some
some-append (b ∷ s) t some = some-cons b (s ++ t)

pub signed-word : (z : ℤ) → IsWord (signed_decimal z)
signed-word z = record { some = some z; whole = signed-without 32 (inl (omega arith)) z }
  where
    some : (z : ℤ) → nat_eq (length (signed_decimal z)) 0 ≡ false
    some (pos n) = (decimal-word n).some
    some (negsuc n) = some-cons 45 (decimal (suc n))

all-words : {A : Type 0} (f : A → List ℕ) → ((x : A) → IsWord (f x)) → (xs : List A)
    → IsWords (map f xs)
all-words f each [] = tt
all-words f each (x ∷ xs) = (each x, all-words f each xs)

hex-word : (b : ℕ) (bytes : List ℕ) → IsWord (hex_of_bytes (b ∷ bytes))
hex-word b bytes = record {
  some = some-cons (digit_glyph false (b / 16))
      (digit_glyph false (b % 16) ∷ hex_of_bytes bytes);
  whole = hex-without 32 (inl (omega arith)) (b ∷ bytes);
}

data-word : (w : Option ℕ) → IsWord (word_text w)
data-word None = word (codes "------") refl refl
data-word (Some n) = hex-word (n / 65536 % 256) (n / 256 % 256 ∷ n % 256 ∷ [])

data-back : (w : Option ℕ) → IsDataOfWord w → word_in (word_text w) ≡ w
data-back None h = refl
data-back (Some n) h =
    let back = bytes-back (bytes_high_first 3 n) (omega arith, (omega arith, (omega arith, tt))) in
    let glyph : nat_eq (digit_glyph false (n / 65536 % 256 / 16)) 45 ≡ false =
    grind (arith, nat_tests) in
    rw glyph
    (ap (λ (bytes : List ℕ). Some (number_of_bytes bytes)) back ∙ ap Some (omega (arith, h)))

all-data-back : (ws : List (Option ℕ)) → AllByRecursion IsDataOfWord ws
    → map word_in (map word_text ws) ≡ ws
all-data-back [] h = refl
all-data-back (w ∷ ws) h = rw (data-back w h.0, all-data-back ws h.1) refl

field-word : (f : Field) (z : ℤ) → is_without 32 f.name ≡ true → IsWord (field_text f z)
field-word f z named = record {
  some = some-append (f.name ++ codes "=" ++ signed_decimal z ++ codes ":")
      (signed_decimal f.exponent) (signed-word f.exponent).some;
  whole = without-append 32 (f.name ++ codes "=" ++ signed_decimal z ++ codes ":")
      (signed_decimal f.exponent)
      (without-append 32 (f.name ++ codes "=" ++ signed_decimal z) (codes ":")
      (without-append 32 (f.name ++ codes "=") (signed_decimal z)
      (without-append 32 f.name (codes "=") (written 32 f.name named) (written 32 (codes "=") refl))
      (signed-word z).whole) (written 32 (codes ":") refl)) (signed-word f.exponent).whole;
}

field-words : (fields : List Field) (values : List ℤ) → are_named fields ≡ true
    → IsWords (field_texts fields values)
field-words [] values named = tt
field-words (f ∷ fields) [] named = tt
field-words (f ∷ fields) (z ∷ values) named =
    let both = and_parts (is_name f) (are_named fields) named in (
      field-word f z (and_parts (is_without 61 f.name) (is_without 32 f.name) both.0).1,
      field-words fields values both.1,
    )

-- ---- events

abbrev page_words : ℕ → Kind → List ℤ → List (List ℕ)
page_words slot clock values = []
page_words slot eph2 values = []
page_words slot eph3 values = []
page_words slot almanac values =
    codes "alm" ∷ decimal slot ∷ field_texts almanac_fields values
page_words slot utc values = codes "utc" ∷ decimal slot ∷ field_texts utc_fields values
page_words slot health values = codes "hlt" ∷ decimal slot ∷ field_texts health_fields values
page_words slot message values =
    codes "msg" ∷ decimal slot ∷ hex_of_bytes (map natural values) ∷ []

abbrev event_words : ℕ → Event → List (List ℕ)
event_words slot (acquired prn cell) =
    codes "acq" ∷ decimal slot ∷ decimal prn
    ∷ (if cell.found then codes "found" else codes "none")
    ∷ signed_decimal cell.bin ∷ decimal cell.half_chip ∷ decimal cell.power ∷ []
event_words slot (count c) = codes "count" ∷ decimal slot ∷ counts_texts c
event_words slot locked = codes "lock" ∷ decimal slot ∷ []
event_words slot unlocked = codes "unlock" ∷ decimal slot ∷ []
event_words slot signal_lost = codes "lost" ∷ decimal slot ∷ []
event_words slot edge = codes "bits" ∷ decimal slot ∷ []
event_words slot (gap n) = codes "gap" ∷ decimal slot ∷ decimal n ∷ []
event_words slot (subframe s) =
    codes "sub" ∷ decimal slot ∷ decimal (id_of s) ∷ decimal (tow_of s) ∷ map word_text s.words
event_words slot (reported (ephemeris values)) =
    codes "eph" ∷ decimal slot
    ∷ field_texts (clock_fields ++ eph2_fields ++ eph3_fields) values
event_words slot (reported (single page)) = page_words slot page.kind page.values
event_words slot (almanacs set) =
    codes "als" ∷ decimal slot ∷ (codes "toa=" ++ signed_decimal set.toa ++ codes ":12")
    ∷ map signed_decimal set.health

page-text : (slot : ℕ) (kind : Kind) (values : List ℤ)
    → page_text slot (record { kind = kind; values = values })
    ≡ words_text (page_words slot kind values)
unfolding page_text
page-text slot clock values = refl
page-text slot eph2 values = refl
page-text slot eph3 values = refl
page-text slot almanac values = refl
page-text slot utc values = refl
page-text slot health values = refl
page-text slot message values = refl

event-text : (slot : ℕ) (event : Event)
    → event_text slot event ≡ words_text (event_words slot event)
unfolding event_text
event-text slot (acquired prn cell) = refl
event-text slot (count c) = refl
event-text slot locked = refl
event-text slot unlocked = refl
event-text slot signal_lost = refl
event-text slot edge = refl
event-text slot (gap n) = refl
event-text slot (subframe s) = refl
event-text slot (reported (ephemeris values)) = refl
event-text slot (reported (single page)) = page-text slot page.kind page.values
event-text slot (almanacs set) = refl

page-words : (slot : ℕ) (kind : Kind) (values : List ℤ) → ArePageValues kind values
    → IsWords (page_words slot kind values)
unfolding digits
page-words slot clock values h = tt
page-words slot eph2 values h = tt
page-words slot eph3 values h = tt
page-words slot almanac values h =
    (word (codes "alm") refl refl, (decimal-word slot, field-words almanac_fields values refl))
page-words slot utc values h =
    (word (codes "utc") refl refl, (decimal-word slot, field-words utc_fields values refl))
page-words slot health values h =
    (word (codes "hlt") refl refl, (decimal-word slot, field-words health_fields values refl))
page-words slot message [] h = absurd (omega (arith, h.0))
page-words slot message (z ∷ values) h = (
  word (codes "msg") refl refl,
  (decimal-word slot, (hex-word (natural z) (map natural values), tt)),
)

words : (slot : ℕ) (event : Event) → IsReadable event → IsWords (event_words slot event)
words slot (acquired prn cell) h = (
  word (codes "acq") refl refl,
  (
    decimal-word slot,
    (
      decimal-word prn,
      (
        by_if IsWord cell.found (codes "found") (codes "none") (word (codes "found") refl refl)
            (word (codes "none") refl refl),
        (signed-word cell.bin, (decimal-word cell.half_chip, (decimal-word cell.power, tt))),
      ),
    ),
  ),
)
words slot (count c) h = (
  word (codes "count") refl refl,
  (
    decimal-word slot,
    all-words signed_decimal signed-word (c.ie ∷ c.qe ∷ c.ip ∷ c.qp ∷ c.il ∷ c.ql ∷ []),
  ),
)
words slot locked h = (word (codes "lock") refl refl, (decimal-word slot, tt))
words slot unlocked h = (word (codes "unlock") refl refl, (decimal-word slot, tt))
words slot signal_lost h = (word (codes "lost") refl refl, (decimal-word slot, tt))
words slot edge h = (word (codes "bits") refl refl, (decimal-word slot, tt))
words slot (gap n) h = (word (codes "gap") refl refl, (decimal-word slot, (decimal-word n, tt)))
words slot (subframe s) h = (
  word (codes "sub") refl refl,
  (
    decimal-word slot,
    (
      decimal-word (id_of s),
      (decimal-word (tow_of s), all-words word_text data-word s.words),
    ),
  ),
)
words slot (reported (ephemeris values)) h = (
  word (codes "eph") refl refl,
  (decimal-word slot, field-words (clock_fields ++ eph2_fields ++ eph3_fields) values refl),
)
words slot (reported (single page)) h = page-words slot page.kind page.values h
words slot (almanacs set) h = (
  word (codes "als") refl refl,
  (
    decimal-word slot,
    (
      record {
        some = some-append (codes "toa=" ++ signed_decimal set.toa) (codes ":12") refl;
        whole = without-append 32 (codes "toa=" ++ signed_decimal set.toa) (codes ":12")
            (without-append 32 (codes "toa=") (signed_decimal set.toa)
            (written 32 (codes "toa=") refl) (signed-word set.toa).whole)
            (written 32 (codes ":12") refl);
      },
      all-words signed_decimal signed-word set.health,
    ),
  ),
)

-- the event of such words
abbrev counts_in : List ℤ → Counts
counts_in zs = record {
  ie = get_or zs 0 (pos 0);
  qe = get_or zs 1 (pos 0);
  ip = get_or zs 2 (pos 0);
  qp = get_or zs 3 (pos 0);
  il = get_or zs 4 (pos 0);
  ql = get_or zs 5 (pos 0);
}

abbrev page_in : Kind → List (List ℕ) → Event
page_in kind words =
    reported (single (record { kind = kind; values = map value_in (drop 2 words) }))

abbrev event_in : List (List ℕ) → Event
event_in words = let verb = get_or words 0 [] in
    if bytes_eq verb (codes "acq") then acquired (natural_in (get_or words 2 [])) (record {
      bin = signed_in (get_or words 4 []);
      half_chip = natural_in (get_or words 5 []);
      power = natural_in (get_or words 6 []);
      found = bytes_eq (get_or words 3 []) (codes "found");
    })
    else if bytes_eq verb (codes "count") then count (counts_in (map signed_in (drop 2 words)))
    else if bytes_eq verb (codes "lock") then locked
    else if bytes_eq verb (codes "unlock") then unlocked
    else if bytes_eq verb (codes "lost") then signal_lost
    else if bytes_eq verb (codes "bits") then edge
    else if bytes_eq verb (codes "gap") then gap (natural_in (get_or words 2 []))
    else if bytes_eq verb (codes "sub")
    then subframe (record { words = map word_in (drop 4 words) })
    else if bytes_eq verb (codes "eph")
    then reported (ephemeris (map value_in (drop 2 words)))
    else if bytes_eq verb (codes "alm") then page_in almanac words
    else if bytes_eq verb (codes "utc") then page_in utc words
    else if bytes_eq verb (codes "hlt") then page_in health words
    else if bytes_eq verb (codes "msg") then reported (single (record {
      kind = message;
      values = map pos (bytes_in (get_or words 2 []));
    }))
    else almanacs (record {
      toa = value_in (get_or words 2 []);
      health = map signed_in (drop 3 words);
    })

characters-back : (values : List ℤ) → AllByRecursion IsCharacter values
    → map pos (bytes_in (hex_of_bytes (map natural values))) ≡ values
characters-back values h =
    ap (map pos) (bytes-back (map natural values) (small values h)) ∙ same values h
  where
    small : (values : List ℤ) → AllByRecursion IsCharacter values
        → AllByRecursion (λ b. b < 256) (map natural values)
    small [] h = tt
    small (z ∷ zs) h = (h.0.1, small zs h.1)

    same : (values : List ℤ) → AllByRecursion IsCharacter values
        → map pos (map natural values) ≡ values
    same [] h = refl
    same (z ∷ zs) h = rw (sym h.0.0, same zs h.1) refl

page-back : (slot : ℕ) (kind : Kind) (values : List ℤ) → ArePageValues kind values
    → event_in (page_words slot kind values)
    ≡ reported (single (record { kind = kind; values = values }))
unfolding digits
page-back slot clock values h = absurd h
page-back slot eph2 values h = absurd h
page-back slot eph3 values h = absurd h
page-back slot almanac values h =
    ap (λ zs. reported (single (record { kind = almanac; values = zs })))
    (values-back almanac_fields values refl h.0 h.1)
page-back slot utc values h =
    ap (λ zs. reported (single (record { kind = utc; values = zs })))
    (values-back utc_fields values refl h.0 h.1)
page-back slot health values h =
    ap (λ zs. reported (single (record { kind = health; values = zs })))
    (values-back health_fields values refl h.0 h.1)
page-back slot message values h =
    ap (λ zs. reported (single (record { kind = message; values = zs })))
    (characters-back values h.1)

found-back : (found : Bool)
    → bytes_eq (if found then codes "found" else codes "none") (codes "found") ≡ found
found-back true = refl
found-back false = refl

toa-back : (toa : ℤ) → IsShortSigned toa
    → value_in (codes "toa=" ++ signed_decimal toa ++ codes ":12") ≡ toa
toa-back toa short =
    ap value_in (order toa)
    ∙ valued-back (codes "toa") (codes "12") toa (written 61 (codes "toa") refl) short
  where
    order : (toa : ℤ) → codes "toa=" ++ signed_decimal toa ++ codes ":12"
        ≡ codes "toa" ++ codes "=" ++ signed_decimal toa ++ codes ":" ++ codes "12"
    order toa = sym (append_assoc (codes "toa=" ++ signed_decimal toa) (codes ":") (codes "12"))

event-back : (slot : ℕ) (event : Event) → IsReadable event
    → event_in (event_words slot event) ≡ event
event-back slot (acquired prn cell) h =
    rw (
      natural-back prn h.0,
      signed-back cell.bin h.1,
      natural-back cell.half_chip h.2,
      natural-back cell.power h.3,
      found-back cell.found,
    ) refl
event-back slot (count c) h =
    rw (
      signed-back c.ie h.0,
      signed-back c.qe h.1,
      signed-back c.ip h.2,
      signed-back c.qp h.3,
      signed-back c.il h.4,
      signed-back c.ql h.5,
    ) refl
event-back slot locked h = refl
event-back slot unlocked h = refl
event-back slot signal_lost h = refl
event-back slot edge h = refl
event-back slot (gap n) h = ap gap (natural-back n h)
event-back slot (subframe s) h =
    ap (λ ws. subframe (record { words = ws })) (all-data-back s.words h)
event-back slot (reported (ephemeris values)) h =
    ap (λ zs. reported (ephemeris zs))
    (values-back (clock_fields ++ eph2_fields ++ eph3_fields) values refl h.0 h.1)
event-back slot (reported (single page)) h = page-back slot page.kind page.values h
event-back slot (almanacs set) h =
    rw (toa-back set.toa h.0, all-signed-back set.health h.1) refl

-- ---- lines

abbrev origin_in : List (List ℕ) → Origin
origin_in words = record {
  client = natural_in (get_or words 0 []);
  time = natural_in (get_or words 1 []);
  slot = natural_in (get_or words 3 []);
  event = event_in (drop 2 words);
}

-- the second word of an event is its slot
page-slot : (slot : ℕ) (kind : Kind) (values : List ℤ) → ArePageValues kind values
    → get_or (page_words slot kind values) 1 [] ≡ decimal slot
page-slot slot clock values h = absurd h
page-slot slot eph2 values h = absurd h
page-slot slot eph3 values h = absurd h
page-slot slot almanac values h = refl
page-slot slot utc values h = refl
page-slot slot health values h = refl
page-slot slot message values h = refl

event-slot : (slot : ℕ) (event : Event) → IsReadable event
    → get_or (event_words slot event) 1 [] ≡ decimal slot
event-slot slot (acquired prn cell) h = refl
event-slot slot (count c) h = refl
event-slot slot locked h = refl
event-slot slot unlocked h = refl
event-slot slot signal_lost h = refl
event-slot slot edge h = refl
event-slot slot (gap n) h = refl
event-slot slot (subframe s) h = refl
event-slot slot (reported (ephemeris values)) h = refl
event-slot slot (reported (single page)) h = page-slot slot page.kind page.values h
event-slot slot (almanacs set) h = refl

origin-back : (origin : Origin) → CanBeRead origin → origin_in (words_of (line_of origin)) ≡ origin
origin-back origin can =
    let text : event_text origin.slot origin.event
    ≡ words_text (event_words origin.slot origin.event) =
    event-text origin.slot origin.event in
    let all : words_of (line_of origin)
    ≡ decimal origin.client ∷ decimal origin.time ∷ event_words origin.slot origin.event =
    words-of-line origin.client origin.time (event_text origin.slot origin.event)
    ∙ ap (λ (t : List ℕ). decimal origin.client ∷ decimal origin.time ∷ words_of t) text
    ∙ ap (λ (ws : List (List ℕ)). decimal origin.client ∷ decimal origin.time ∷ ws)
    (words-back (event_words origin.slot origin.event)
    (words origin.slot origin.event can.event)) in
    ap origin_in all
    ∙ rw (
      natural-back origin.client can.client,
      natural-back origin.time can.time,
      ap natural_in (event-slot origin.slot origin.event can.event)
          ∙ natural-back origin.slot can.slot,
      event-back origin.slot origin.event can.event,
    ) refl

pub are-distinct : LinesAreDistinct
are-distinct a b can_a can_b e =
    sym (origin-back a can_a) ∙ ap (λ (line : List ℕ). origin_in (words_of line)) e
    ∙ origin-back b can_b
