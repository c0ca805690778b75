-- Fields as words: their texts, and how long these are.
use Rattle.std.proofs.Common.{◌≡◌, ℕ, ℤ, pos, ◌+◌, ◌≤◌, List, [], ◌∷◌, ◌++◌, length, map, refl, ap}
use Rattle.std.proofs.Common.{append_assoc, append-nil, Bool, true, false, arith, take, get_or}
use Rattle.std.proofs.Common.{◌<◌}
use Rattle.std.proofs.lemmas.Slice.Zip.{length-zip, get_or-zip}
use Rattle.std.specs.Prelude.{Option, Some, unwrap_or, nat_le, codes, zip, if◌then◌else◌}
use Rattle.std.specs.List.{list_all}
use Rattle.std.specs.Str.{bytes_eq}
use Rattle.std.specs.Fmt.{decimal, signed_decimal, digits}
use Rattle.std.proofs.lemmas.Bool.{and_parts, leb-true}
use Rattle.definitions.specs.Fields as fields
use Rattle.definitions.specs.Fields.{unsigned, clock_fields, eph2_fields, eph3_fields}
use Rattle.definitions.specs.Fields.{almanac_fields, utc_fields, health_fields}
use Rattle.definitions.specs.Events.{reported}
use Rattle.definitions.specs.Texts.{words_text, field_text, field_texts, event_text, page_text}
use Rattle.subframes.specs.declared.fields.Field.{Field}
use Rattle.subframes.specs.declared.fields.Field.TheVariants.{Clock, Eph2, Eph3, Almanac, Utc}
use Rattle.subframes.specs.declared.fields.Field.TheVariants.{Health}
use Rattle.subframes.specs.Entries.{entry_of, name_of, field_named, clock_name, eph2_name}
use Rattle.subframes.specs.Entries.{eph3_name, almanac_name, utc_name, health_name}
use Rattle.data_sets.specs.declared.report.Report.{Report}
use Rattle.data_sets.specs.declared.report.Report.TheVariants.{Eph, Alm, Utc as UtcPage, Hlt}
use Rattle.data_sets.specs.Reports.{fields_in, numbers_in, report_in}
use Rattle.printed_lines.specs.SpacedWords.{with_spaces}
use Rattle.printed_lines.proofs.LineLemmas.{with_spaces-more}

-- ---- how long a name and an exponent are
is_short : fields.Field → Bool
is_short f = nat_le (length f.name + length (signed_decimal f.exponent)) 8

either : (b : Bool) (f : fields.Field) (rest : Option fields.Field) → is_short f ≡ true
    → is_short (unwrap_or rest (unsigned [] [] (pos 0))) ≡ true
    → is_short (unwrap_or (if b then Some f else rest) (unsigned [] [] (pos 0))) ≡ true
either true f rest here there = here
either false f rest here there = there

named-short : (table : List fields.Field) (name : List ℕ) → list_all is_short table ≡ true
    → is_short (field_named table name) ≡ true
unfolding digits is_short
named-short [] name all = refl
named-short (f ∷ table) name all =
    let both = and_parts (is_short f) (list_all is_short table) all in
    either (bytes_eq f.name name) f _ both.0 (named-short table name both.1)

entry-short : (f : Field) → is_short (entry_of f) ≡ true
unfolding digits is_short entry_of name_of
entry-short (Clock f) = named-short clock_fields (clock_name f) refl
entry-short (Eph2 f) = named-short eph2_fields (eph2_name f) refl
entry-short (Eph3 f) = named-short eph3_fields (eph3_name f) refl
entry-short (Almanac f) = named-short almanac_fields (almanac_name f) refl
entry-short (Utc f) = named-short utc_fields (utc_name f) refl
entry-short (Health f) = named-short health_fields (health_name f) refl

pub entry-length : (f : Field)
    → length (entry_of f).name + length (signed_decimal (entry_of f).exponent) ≤ 8
unfolding is_short
entry-length f = leb-true _ 8 (entry-short f)

-- ---- texts
pub field-words : (line : List ℕ) (f : fields.Field) (value : ℤ)
    → (((((line ++ codes " ") ++ f.name) ++ codes "=") ++ signed_decimal value) ++ codes ":")
    ++ signed_decimal f.exponent ≡ line ++ 32 ∷ field_text f value
field-words line f value = simp append_assoc

-- fields after a word
pub fields-words : (word : List ℕ) (fs : List Field) (values : List ℤ)
    → word ++ with_spaces (λ (field, value). field_text (entry_of field) value) (zip fs values)
    ≡ words_text (word ∷ field_texts (map entry_of fs) values)
fields-words word [] values = append-nil word
fields-words word (f ∷ fs) [] = append-nil word
fields-words word (f ∷ fs) (value ∷ values) =
    ap (λ r. word ++ 32 ∷ r) (fields-words (field_text (entry_of f) value) fs values)

-- one more field
pub more-fields : (line now : List ℕ) (fs : List Field) (values : List ℤ) (i : ℕ) (f : Field)
    (value : ℤ) → i < length fs → length fs ≡ length values
    → now ≡ line ++ with_spaces (λ (field, value). field_text (entry_of field) value)
    (take i (zip fs values))
    → now ++ 32 ∷ field_text (entry_of (get_or fs i f)) (get_or values i value)
    ≡ line ++ with_spaces (λ (field, value). field_text (entry_of field) value)
    (take (i + 1) (zip fs values))
more-fields line now fs values i f value within same is =
    let both : get_or (zip fs values) i (f, value) ≡ (get_or fs i f, get_or values i value) =
    get_or-zip fs values i (f, value) within (omega (arith, within, same)) in
    let room : i < length (zip fs values) =
    omega (arith, length-zip fs values, within, same) in
    rw both at (with_spaces-more (λ (p : Field × ℤ). field_text (entry_of p.0) p.1) line now
    (zip fs values) i (f, value) room is)

-- the words of a report after those of its kind
abbrev page_words : List ℕ → ℕ → Report → List ℕ
page_words kind slot r =
    words_text (kind ∷ decimal slot
    ∷ field_texts (fields_in (report_in r)) (numbers_in (report_in r)))

pub eph-text : (slot : ℕ) (values : List ℤ)
    → page_words (codes "eph") slot (Eph values)
    ≡ event_text slot (reported (report_in (Eph values)))
unfolding event_text
eph-text slot values = refl

pub alm-text : (slot : ℕ) (values : List ℤ)
    → page_words (codes "alm") slot (Alm values)
    ≡ event_text slot (reported (report_in (Alm values)))
unfolding event_text page_text
alm-text slot values = refl

pub utc-text : (slot : ℕ) (values : List ℤ)
    → page_words (codes "utc") slot (UtcPage values)
    ≡ event_text slot (reported (report_in (UtcPage values)))
unfolding event_text page_text
utc-text slot values = refl

pub hlt-text : (slot : ℕ) (values : List ℤ)
    → page_words (codes "hlt") slot (Hlt values)
    ≡ event_text slot (reported (report_in (Hlt values)))
unfolding event_text page_text
hlt-text slot values = refl
