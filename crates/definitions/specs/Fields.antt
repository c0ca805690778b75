-- The fields of subframes, IS-GPS-200, section 20.3.3. Bits are numbered from 1 within the
-- subframe, parity places included. The places are those of figure 20-1; which are signed, and
-- their scale factors, stand in the tables that are named with each list.
use Rattle.std.specs.Prelude.{ℕ, ◌+◌, ◌-◌, ◌*◌, ◌/◌, ◌%◌, ◌^◌, ◌==◌, ◌&&◌, Bool, true, false}
use Rattle.std.specs.Prelude.{if◌then◌else◌, ℤ, pos, ◌-ℤ◌, neg_ℤ, List, [], ◌∷◌, ◌++◌, map}
use Rattle.std.specs.Prelude.{flat_map, length, slice_index, Option, Some, None, codes, suc}
use Rattle.std.specs.Prelude.{unwrap_or}
use Rattle.std.specs.Str.{bytes_eq}
use Rattle.std.specs.Int.{bit_at}
use Rattle.std.specs.Int.Digits.{number_from_digits}
use Rattle.std.specs.List.{range_with_len, list_all}
use Rattle.std.specs.Option.{is_some}
use Rattle.std.specs.Fmt.{decimal}
use Rattle.definitions.specs.Sums.{between}
use Rattle.definitions.specs.Frames.{Subframe, word_of}

-- bits first to last of a subframe
pub record Bits : Type 0 where
  pub first : ℕ
  pub last : ℕ

-- a field: its name, where it stands (its parts are joined in their order), whether it is in two's
-- complement, and its scale factor's power of two
pub record Field : Type 0 where
  pub name : List ℕ
  pub parts : List Bits
  pub is_signed : Bool
  pub exponent : ℤ

abbrev pub bits : ℕ → ℕ → Bits
bits first last = record { first = first; last = last }

abbrev pub unsigned : List ℕ → List Bits → ℤ → Field
unsigned name parts exponent =
    record { name = name; parts = parts; is_signed = false; exponent = exponent }

abbrev pub signed : List ℕ → List Bits → ℤ → Field
signed name parts exponent =
    record { name = name; parts = parts; is_signed = true; exponent = exponent }

-- the place of the field of a name among these fields, from 0
abbrev pub place_of : List ℕ → List Field → ℕ
place_of name [] = 0
place_of name (field ∷ fields) =
    if bytes_eq field.name name then 0 else suc (place_of name fields)

abbrev pub minus : ℕ → ℤ
minus n = neg_ℤ (pos n)

-- subframe 1, the clock: section 20.3.3.3.1, table 20-I
abbrev pub clock_fields : List Field
clock_fields = unsigned (codes "wn") (bits 61 70 ∷ []) (pos 0)
    ∷ unsigned (codes "l2") (bits 71 72 ∷ []) (pos 0)
    ∷ unsigned (codes "ura") (bits 73 76 ∷ []) (pos 0)
    ∷ unsigned (codes "health") (bits 77 82 ∷ []) (pos 0)
    ∷ unsigned (codes "iodc") (bits 83 84 ∷ bits 211 218 ∷ []) (pos 0)
    ∷ unsigned (codes "l2p") (bits 91 91 ∷ []) (pos 0)
    ∷ signed (codes "tgd") (bits 197 204 ∷ []) (minus 31)
    ∷ unsigned (codes "toc") (bits 219 234 ∷ []) (pos 4)
    ∷ signed (codes "af2") (bits 241 248 ∷ []) (minus 55)
    ∷ signed (codes "af1") (bits 249 264 ∷ []) (minus 43)
    ∷ signed (codes "af0") (bits 271 292 ∷ []) (minus 31)
    ∷ []

-- subframe 2, the first part of the ephemeris: section 20.3.3.4.1, table 20-III
abbrev pub eph2_fields : List Field
eph2_fields = unsigned (codes "iode") (bits 61 68 ∷ []) (pos 0)
    ∷ signed (codes "crs") (bits 69 84 ∷ []) (minus 5)
    ∷ signed (codes "dn") (bits 91 106 ∷ []) (minus 43)
    ∷ signed (codes "m0") (bits 107 114 ∷ bits 121 144 ∷ []) (minus 31)
    ∷ signed (codes "cuc") (bits 151 166 ∷ []) (minus 29)
    ∷ unsigned (codes "e") (bits 167 174 ∷ bits 181 204 ∷ []) (minus 33)
    ∷ signed (codes "cus") (bits 211 226 ∷ []) (minus 29)
    ∷ unsigned (codes "sqrta") (bits 227 234 ∷ bits 241 264 ∷ []) (minus 19)
    ∷ unsigned (codes "toe") (bits 271 286 ∷ []) (pos 4)
    ∷ unsigned (codes "fit") (bits 287 287 ∷ []) (pos 0)
    ∷ unsigned (codes "aodo") (bits 288 292 ∷ []) (pos 0)
    ∷ []

-- subframe 3, the second part of the ephemeris: section 20.3.3.4.1, table 20-III
abbrev pub eph3_fields : List Field
eph3_fields = signed (codes "cic") (bits 61 76 ∷ []) (minus 29)
    ∷ signed (codes "om0") (bits 77 84 ∷ bits 91 114 ∷ []) (minus 31)
    ∷ signed (codes "cis") (bits 121 136 ∷ []) (minus 29)
    ∷ signed (codes "i0") (bits 137 144 ∷ bits 151 174 ∷ []) (minus 31)
    ∷ signed (codes "crc") (bits 181 196 ∷ []) (minus 5)
    ∷ signed (codes "w") (bits 197 204 ∷ bits 211 234 ∷ []) (minus 31)
    ∷ signed (codes "omdot") (bits 241 264 ∷ []) (minus 43)
    ∷ unsigned (codes "iode3") (bits 271 278 ∷ []) (pos 0)
    ∷ signed (codes "idot") (bits 279 292 ∷ []) (minus 43)
    ∷ []

-- an almanac: section 20.3.3.5.1.2, table 20-VI. Its af0 stands in two parts, before and after af1
abbrev pub almanac_fields : List Field
almanac_fields = unsigned (codes "data") (bits 61 62 ∷ []) (pos 0)
    ∷ unsigned (codes "sv") (bits 63 68 ∷ []) (pos 0)
    ∷ unsigned (codes "e") (bits 69 84 ∷ []) (minus 21)
    ∷ unsigned (codes "toa") (bits 91 98 ∷ []) (pos 12)
    ∷ signed (codes "di") (bits 99 114 ∷ []) (minus 19)
    ∷ signed (codes "omdot") (bits 121 136 ∷ []) (minus 38)
    ∷ unsigned (codes "health") (bits 137 144 ∷ []) (pos 0)
    ∷ unsigned (codes "sqrta") (bits 151 174 ∷ []) (minus 11)
    ∷ signed (codes "om0") (bits 181 204 ∷ []) (minus 23)
    ∷ signed (codes "w") (bits 211 234 ∷ []) (minus 23)
    ∷ signed (codes "m0") (bits 241 264 ∷ []) (minus 23)
    ∷ signed (codes "af0") (bits 271 278 ∷ bits 290 292 ∷ []) (minus 20)
    ∷ signed (codes "af1") (bits 279 289 ∷ []) (minus 38)
    ∷ []

-- the ionosphere, section 20.3.3.5.1.7, table 20-X, and coordinated universal time, section
-- 20.3.3.5.1.6, table 20-IX
abbrev pub utc_fields : List Field
utc_fields = unsigned (codes "data") (bits 61 62 ∷ []) (pos 0)
    ∷ unsigned (codes "sv") (bits 63 68 ∷ []) (pos 0)
    ∷ signed (codes "al0") (bits 69 76 ∷ []) (minus 30)
    ∷ signed (codes "al1") (bits 77 84 ∷ []) (minus 27)
    ∷ signed (codes "al2") (bits 91 98 ∷ []) (minus 24)
    ∷ signed (codes "al3") (bits 99 106 ∷ []) (minus 24)
    ∷ signed (codes "be0") (bits 107 114 ∷ []) (pos 11)
    ∷ signed (codes "be1") (bits 121 128 ∷ []) (pos 14)
    ∷ signed (codes "be2") (bits 129 136 ∷ []) (pos 16)
    ∷ signed (codes "be3") (bits 137 144 ∷ []) (pos 16)
    ∷ signed (codes "a1") (bits 151 174 ∷ []) (minus 50)
    ∷ signed (codes "a0") (bits 181 204 ∷ bits 211 218 ∷ []) (minus 30)
    ∷ unsigned (codes "tot") (bits 219 226 ∷ []) (pos 12)
    ∷ unsigned (codes "wnt") (bits 227 234 ∷ []) (pos 0)
    ∷ signed (codes "dtls") (bits 241 248 ∷ []) (pos 0)
    ∷ unsigned (codes "wnlsf") (bits 249 256 ∷ []) (pos 0)
    ∷ unsigned (codes "dn") (bits 257 264 ∷ []) (pos 0)
    ∷ signed (codes "dtlsf") (bits 271 278 ∷ []) (pos 0)
    ∷ []

-- the health of satellites 1 to 24, six bits each, four in each of words 4 to 9: section
-- 20.3.3.5.1.3
abbrev pub health_field : ℕ → Field
health_field k = let first = 91 + 30 * (k / 4) + 6 * (k % 4) in
    unsigned (codes "h" ++ decimal (k + 1)) (bits first (first + 5) ∷ []) (pos 0)

abbrev pub health_fields : List Field
health_fields = unsigned (codes "data") (bits 61 62 ∷ []) (pos 0)
    ∷ unsigned (codes "sv") (bits 63 68 ∷ []) (pos 0)
    ∷ unsigned (codes "toa") (bits 69 76 ∷ []) (pos 12)
    ∷ unsigned (codes "wna") (bits 77 84 ∷ []) (pos 0)
    ∷ map health_field (range_with_len 0 24)

-- the 22 characters of a special message, two in word 3, three in each of words 4 to 9, two in word
-- 10: section 20.3.3.5.1.8
abbrev pub character : ℕ → Field
character first = unsigned [] (bits first (first + 7) ∷ []) (pos 0)

abbrev pub characters_of_word : ℕ → List Field
characters_of_word word = let first =
    30 * (word - 1) + 1 in character first ∷ character (first + 8) ∷ character (first + 16) ∷ []

abbrev pub message_fields : List Field
message_fields = character 69 ∷ character 77 ∷ flat_map characters_of_word (range_with_len 4 6)
    ++ character 271 ∷ character 279 ∷ []

-- ---- values

abbrev pub places_of : Bits → List ℕ
places_of b = between b.first (b.last + 1)

abbrev pub all_places : Field → List ℕ
all_places f = flat_map places_of f.parts

abbrev pub word_at_place : Subframe → ℕ → Option ℕ
word_at_place s place = word_of s ((place - 1) / 30 + 1)

abbrev pub bit_at_place : Subframe → ℕ → ℕ
bit_at_place s place = bit_at (unwrap_or (word_at_place s place) 0) (23 - (place - 1) % 30)

-- the number that the digits 0 and 1 write. In two's complement it is less by 2 to the number of
-- digits, where the first digit is 1
abbrev pub number_of : Bool → List ℕ → ℤ
number_of is_signed digits =
    pos (number_from_digits 2 digits) -ℤ (if is_signed && (slice_index digits 0 == 1)
    then pos (2 ^ length digits) else pos 0)

abbrev pub value_of : Subframe → Field → ℤ
value_of s f = number_of f.is_signed (map (bit_at_place s) (all_places f))

-- no word that holds a part of the field is missing
abbrev pub is_there : Subframe → Field → Bool
is_there s f = list_all (λ place. is_some (word_at_place s place)) (all_places f)

unfoldable pub field_of : Subframe → Field → Option ℤ
field_of s f = if is_there s f then Some (value_of s f) else None
