-- Lines put together from their words, a space before each.
use Rattle.std.proofs.Common.{◌≡◌, ℕ, pos, ◌+◌, ◌<◌, List, [], ◌∷◌, ◌++◌, ◌∙◌, refl, ap}
use Rattle.std.proofs.Common.{append_assoc, append-nil, length, map, take, get_or}
use Rattle.std.specs.Prelude.{Bool, codes, if◌then◌else◌}
use Rattle.std.specs.Fmt.{decimal, signed_decimal}
use Rattle.std.proofs.lemmas.List.{take_more, flat_map_more}
use Rattle.definitions.specs.Sums.{natural}
use Rattle.definitions.specs.Correlation.{Counts}
use Rattle.definitions.specs.Frames.{Subframe, id_of, tow_of}
use Rattle.definitions.specs.Segments.{Shift}
use Rattle.definitions.specs.DataSets.{AlmanacSet, single}
use Rattle.definitions.specs.Pages.{message}
use Rattle.definitions.specs.Acquisition.{Cell}
use Rattle.definitions.specs.Events.{acquired, count, locked, unlocked, signal_lost, edge, gap}
use Rattle.definitions.specs.Events.{subframe, reported, almanacs}
use Rattle.definitions.specs.Answers.{acquiring, idle, holding, tracking, accepted, refused, shown}
use Rattle.definitions.specs.Texts.{words_text, word_text, hex_of_bytes, event_text, page_text}
use Rattle.definitions.specs.Texts.{answer_text, refusal_text}
use Rattle.printed_lines.specs.SpacedWords.{with_spaces}

-- ---- words after a word
pub with_spaces-words : {A : Type 0} (f : A → List ℕ) (word : List ℕ) (xs : List A)
    → word ++ with_spaces f xs ≡ words_text (word ∷ map f xs)
with_spaces-words f word [] = append-nil word
with_spaces-words f word (x ∷ xs) = ap (λ r. word ++ 32 ∷ r) (with_spaces-words f (f x) xs)

-- one more word
pub with_spaces-more : {A : Type 0} (f : A → List ℕ) (line now : List ℕ) (xs : List A) (i : ℕ)
    (d : A) → i < length xs → now ≡ line ++ with_spaces f (take i xs)
    → now ++ 32 ∷ f (get_or xs i d) ≡ line ++ with_spaces f (take (i + 1) xs)
with_spaces-more f line now xs i d within is =
    rw (is, take_more xs i d within)
    (flat_map_more (λ x. 32 ∷ f x) line (take i xs) (get_or xs i d))

-- words after a kind and a slot
pub kind-text : (line kind : List ℕ) (slot : ℕ) (rest : List ℕ) (words : List (List ℕ))
    → decimal slot ++ rest ≡ words_text (decimal slot ∷ words)
    → ((line ++ 32 ∷ kind) ++ 32 ∷ decimal slot) ++ rest
    ≡ line ++ 32 ∷ words_text (kind ∷ decimal slot ∷ words)
kind-text line kind slot rest words is =
    append_assoc (line ++ 32 ∷ kind) (32 ∷ decimal slot) rest
    ∙ append_assoc line (32 ∷ kind) (32 ∷ (decimal slot ++ rest))
    ∙ ap (λ r. line ++ 32 ∷ (kind ++ 32 ∷ r)) is

-- ---- events
six_parts : (line a b c d e f : List ℕ)
    → (((((line ++ a) ++ b) ++ c) ++ d) ++ e) ++ f ≡ line ++ (((((a ++ b) ++ c) ++ d) ++ e) ++ f)
six_parts line a b c d e f = simp append_assoc

five_parts : (line a b c d e : List ℕ)
    → ((((line ++ a) ++ b) ++ c) ++ d) ++ e ≡ line ++ ((((a ++ b) ++ c) ++ d) ++ e)
five_parts line a b c d e = simp append_assoc

four_parts : (line a b c d : List ℕ)
    → (((line ++ a) ++ b) ++ c) ++ d ≡ line ++ (((a ++ b) ++ c) ++ d)
four_parts line a b c d = simp append_assoc

-- the six sums, a space before each
abbrev sums_text : Counts → List ℕ
sums_text c =
    (((((32 ∷ signed_decimal c.ie) ++ 32 ∷ signed_decimal c.qe) ++ 32 ∷ signed_decimal c.ip)
    ++ 32 ∷ signed_decimal c.qp) ++ 32 ∷ signed_decimal c.il) ++ 32 ∷ signed_decimal c.ql

behind-sums : (line : List ℕ) (slot : ℕ) (c : Counts)
    → ((line ++ codes " count") ++ 32 ∷ decimal slot) ++ sums_text c
    ≡ line ++ 32 ∷ event_text slot (count c)
unfolding event_text
behind-sums line slot c = simp append_assoc

pub count-text : (line : List ℕ) (slot : ℕ) (c : Counts)
    → (((((((line ++ codes " count") ++ 32 ∷ decimal slot) ++ 32 ∷ signed_decimal c.ie)
    ++ 32 ∷ signed_decimal c.qe) ++ 32 ∷ signed_decimal c.ip) ++ 32 ∷ signed_decimal c.qp)
    ++ 32 ∷ signed_decimal c.il) ++ 32 ∷ signed_decimal c.ql
    ≡ line ++ 32 ∷ event_text slot (count c)
count-text line slot c =
    six_parts ((line ++ codes " count") ++ 32 ∷ decimal slot) (32 ∷ signed_decimal c.ie)
    (32 ∷ signed_decimal c.qe) (32 ∷ signed_decimal c.ip) (32 ∷ signed_decimal c.qp)
    (32 ∷ signed_decimal c.il) (32 ∷ signed_decimal c.ql)
    ∙ behind-sums line slot c

pub lock-text : (line : List ℕ) (slot : ℕ)
    → (line ++ codes " lock") ++ 32 ∷ decimal slot ≡ line ++ 32 ∷ event_text slot locked
unfolding event_text
lock-text line slot = append_assoc line (codes " lock") (32 ∷ decimal slot)

pub unlock-text : (line : List ℕ) (slot : ℕ)
    → (line ++ codes " unlock") ++ 32 ∷ decimal slot ≡ line ++ 32 ∷ event_text slot unlocked
unfolding event_text
unlock-text line slot = append_assoc line (codes " unlock") (32 ∷ decimal slot)

pub lost-text : (line : List ℕ) (slot : ℕ)
    → (line ++ codes " lost") ++ 32 ∷ decimal slot ≡ line ++ 32 ∷ event_text slot signal_lost
unfolding event_text
lost-text line slot = append_assoc line (codes " lost") (32 ∷ decimal slot)

pub bits-text : (line : List ℕ) (slot : ℕ)
    → (line ++ codes " bits") ++ 32 ∷ decimal slot ≡ line ++ 32 ∷ event_text slot edge
unfolding event_text
bits-text line slot = append_assoc line (codes " bits") (32 ∷ decimal slot)

pub gap-text : (line : List ℕ) (slot bits : ℕ)
    → ((line ++ codes " gap") ++ 32 ∷ decimal slot) ++ 32 ∷ decimal bits
    ≡ line ++ 32 ∷ event_text slot (gap bits)
unfolding event_text
gap-text line slot bits = kind-text line (codes "gap") slot (32 ∷ decimal bits)
    (decimal bits ∷ []) refl

pub acquired-text : (line : List ℕ) (slot prn : ℕ) (cell : Cell)
    → ((((((line ++ codes " acq") ++ 32 ∷ decimal slot) ++ 32 ∷ decimal prn)
    ++ 32 ∷ (if cell.found then codes "found" else codes "none"))
    ++ 32 ∷ signed_decimal cell.bin) ++ 32 ∷ decimal cell.half_chip) ++ 32 ∷ decimal cell.power
    ≡ line ++ 32 ∷ event_text slot (acquired prn cell)
unfolding event_text
acquired-text line slot prn cell =
    five_parts ((line ++ codes " acq") ++ 32 ∷ decimal slot) (32 ∷ decimal prn)
    (32 ∷ (if cell.found then codes "found" else codes "none")) (32 ∷ signed_decimal cell.bin)
    (32 ∷ decimal cell.half_chip) (32 ∷ decimal cell.power)
    ∙ kind-text line (codes "acq") slot _ (decimal prn ∷ (if cell.found then codes "found"
    else codes "none") ∷ signed_decimal cell.bin ∷ decimal cell.half_chip ∷ decimal cell.power
    ∷ []) (simp append_assoc)

pub subframe-text : (line : List ℕ) (slot : ℕ) (s : Subframe)
    → ((((line ++ codes " sub") ++ 32 ∷ decimal slot) ++ 32 ∷ decimal (id_of s))
    ++ 32 ∷ decimal (tow_of s)) ++ with_spaces word_text s.words
    ≡ line ++ 32 ∷ event_text slot (subframe s)
unfolding event_text
subframe-text line slot s =
    append_assoc _ (32 ∷ decimal (tow_of s)) (with_spaces word_text s.words)
    ∙ append_assoc _ (32 ∷ decimal (id_of s))
    (32 ∷ (decimal (tow_of s) ++ with_spaces word_text s.words))
    ∙ kind-text line (codes "sub") slot _
    (decimal (id_of s) ∷ decimal (tow_of s) ∷ map word_text s.words)
    (ap (λ r. decimal slot ++ 32 ∷ (decimal (id_of s) ++ 32 ∷ r))
    (with_spaces-words word_text (decimal (tow_of s)) s.words))

same-naturals : (xs : List ℕ) → xs ≡ map natural (map (λ x. pos x) xs)
same-naturals [] = refl
same-naturals (x ∷ xs) = ap (λ r. x ∷ r) (same-naturals xs)

pub message-text : (line : List ℕ) (slot : ℕ) (characters : List ℕ)
    → (((line ++ codes " msg") ++ 32 ∷ decimal slot) ++ codes " ") ++ hex_of_bytes characters
    ≡ line ++ 32 ∷ event_text slot (reported (single
    (record { kind = message; values = map (λ x. pos x) characters })))
unfolding event_text page_text
message-text line slot characters =
    append_assoc _ (codes " ") (hex_of_bytes characters)
    ∙ kind-text line (codes "msg") slot _
    (hex_of_bytes (map natural (map (λ x. pos x) characters)) ∷ [])
    (ap (λ cs. decimal slot ++ 32 ∷ hex_of_bytes cs) (same-naturals characters))

pub almanacs-text : (line : List ℕ) (slot : ℕ) (set : AlmanacSet)
    → (((((line ++ codes " als") ++ 32 ∷ decimal slot) ++ codes " toa=") ++ signed_decimal set.toa)
    ++ codes ":12") ++ with_spaces signed_decimal set.health
    ≡ line ++ 32 ∷ event_text slot (almanacs set)
unfolding event_text
almanacs-text line slot set =
    four_parts _ (codes " toa=") (signed_decimal set.toa) (codes ":12") _
    ∙ kind-text line (codes "als") slot _
    ((codes "toa=" ++ signed_decimal set.toa ++ codes ":12") ∷ map signed_decimal set.health)
    (ap (λ r. decimal slot ++ 32 ∷ r)
    (with_spaces-words signed_decimal (codes "toa=" ++ signed_decimal set.toa ++ codes ":12")
    set.health))
  where
    four_parts : (l a b c d : List ℕ) → (((l ++ a) ++ b) ++ c) ++ d ≡ l ++ (((a ++ b) ++ c) ++ d)
    four_parts l a b c d = simp append_assoc

-- ---- answers
pub accepted-text : (line : List ℕ) (slot : ℕ)
    → line ++ codes " ok" ≡ line ++ 32 ∷ answer_text slot accepted
unfolding answer_text
accepted-text line slot = refl

pub refusal-text : (line : List ℕ) (n : ℕ)
    → (line ++ codes " err") ++ 32 ∷ decimal n ≡ line ++ 32 ∷ refusal_text n
refusal-text line n = simp append_assoc

-- a slot's refusal is printed as that of a line
pub refused-text : (line : List ℕ) (slot n : ℕ)
    → line ++ 32 ∷ refusal_text n ≡ line ++ 32 ∷ answer_text slot (refused n)
unfolding answer_text
refused-text line slot n = refl

pub idle-text : (line : List ℕ) (slot : ℕ)
    → ((line ++ codes " state") ++ 32 ∷ decimal slot) ++ codes " idle"
    ≡ line ++ 32 ∷ answer_text slot (shown idle)
unfolding answer_text
idle-text line slot = simp append_assoc

pub hold-text : (line : List ℕ) (slot prn dumps : ℕ)
    → ((((line ++ codes " state") ++ 32 ∷ decimal slot) ++ codes " hold") ++ 32 ∷ decimal prn)
    ++ 32 ∷ decimal dumps ≡ line ++ 32 ∷ answer_text slot (shown (holding prn dumps))
unfolding answer_text
hold-text line slot prn dumps = simp append_assoc

pub acquire-text : (line : List ℕ) (slot prn done cells : ℕ)
    → (((((line ++ codes " state") ++ 32 ∷ decimal slot) ++ codes " acquire") ++ 32 ∷ decimal prn)
    ++ 32 ∷ decimal done) ++ 32 ∷ decimal cells
    ≡ line ++ 32 ∷ answer_text slot (shown (acquiring prn done cells))
unfolding answer_text
acquire-text line slot prn done cells =
    four_parts ((line ++ codes " state") ++ 32 ∷ decimal slot) (codes " acquire")
    (32 ∷ decimal prn) (32 ∷ decimal done) (32 ∷ decimal cells)
    ∙ kind-text line (codes "state") slot _
    (codes "acquire" ∷ decimal prn ∷ decimal done ∷ decimal cells ∷ []) (simp append_assoc)

pub track-text : (line : List ℕ) (slot prn dumps : ℕ) (shift : Shift) (is_locked has_edge : Bool)
    → (((((((line ++ codes " state") ++ 32 ∷ decimal slot) ++ codes " track") ++ 32 ∷ decimal prn)
    ++ 32 ∷ decimal dumps) ++ 32 ∷ signed_decimal shift.v) ++ 32 ∷ signed_decimal shift.w)
    ++ 32 ∷ (if has_edge then codes "bits" else if is_locked then codes "lock" else codes "open")
    ≡ line ++ 32 ∷ answer_text slot (shown (tracking prn dumps shift is_locked has_edge))
unfolding answer_text
track-text line slot prn dumps shift is_locked has_edge =
    six_parts ((line ++ codes " state") ++ 32 ∷ decimal slot) (codes " track") (32 ∷ decimal prn)
    (32 ∷ decimal dumps) (32 ∷ signed_decimal shift.v) (32 ∷ signed_decimal shift.w)
    (32 ∷ (if has_edge then codes "bits" else if is_locked then codes "lock" else codes "open"))
    ∙ kind-text line (codes "state") slot _
    (codes "track" ∷ decimal prn ∷ decimal dumps ∷ signed_decimal shift.v ∷ signed_decimal
    shift.w ∷ (if has_edge then codes "bits" else if is_locked then codes "lock" else codes
    "open") ∷ []) (simp append_assoc)
