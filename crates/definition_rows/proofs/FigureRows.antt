-- All fields beside IS-GPS-200: each with its words and bits by section 20.3.3 and figure 20-1, and
-- with the number of bits and the scale factor of its table. Where no table has a power of two, the
-- exponent is 0. The names are this project's own (FORMATS).
use Rattle.std.proofs.Common.{◌≡◌, ℕ, List, [], ◌∷◌, refl}
use Rattle.std.specs.Prelude.{◌+◌, ◌-◌, ◌*◌, Bool, true, false, ℤ, pos, neg_ℤ, map, length, codes}
use Rattle.std.specs.Fmt.{digits}
use Rattle.definitions.specs.Fields.{Bits, Field, all_places, clock_fields, eph2_fields}
use Rattle.definitions.specs.Fields.{eph3_fields, almanac_fields, utc_fields, health_fields}
use Rattle.definitions.specs.Fields.{message_fields}

-- a row of a table: a field, and its number of bits
record Row : Type 0 where
  field : Field
  size : ℕ

abbrev row_of : Field → Row
row_of field = record { field = field; size = length (all_places field) }

-- bits first to last of a word. The bits of each word are numbered from 1 to 30
abbrev word : ℕ → ℕ → ℕ → Bits
word n first last = record { first = 30 * (n - 1) + first; last = 30 * (n - 1) + last }

abbrev row : Bool → List ℕ → List Bits → ℕ → ℤ → Row
row is_signed name parts size exponent = record {
  field = record { name = name; parts = parts; is_signed = is_signed; exponent = exponent };
  size = size;
}

-- rows with a star in their table are in two's complement
abbrev plain : List ℕ → List Bits → ℕ → ℤ → Row
plain name parts size exponent = row false name parts size exponent

abbrev starred : List ℕ → List Bits → ℕ → ℤ → Row
starred name parts size exponent = row true name parts size exponent

abbrev minus : ℕ → ℤ
minus n = neg_ℤ (pos n)

-- sections 20.3.3.3.1.1 to 20.3.3.3.1.8, table 20-I. The first two bits of IODC are in word 3
clock_table : map row_of clock_fields ≡ plain (codes "wn") (word 3 1 10 ∷ []) 10 (pos 0)
    ∷ plain (codes "l2") (word 3 11 12 ∷ []) 2 (pos 0)
    ∷ plain (codes "ura") (word 3 13 16 ∷ []) 4 (pos 0)
    ∷ plain (codes "health") (word 3 17 22 ∷ []) 6 (pos 0)
    ∷ plain (codes "iodc") (word 3 23 24 ∷ word 8 1 8 ∷ []) 10 (pos 0)
    ∷ plain (codes "l2p") (word 4 1 1 ∷ []) 1 (pos 0)
    ∷ starred (codes "tgd") (word 7 17 24 ∷ []) 8 (minus 31)
    ∷ plain (codes "toc") (word 8 9 24 ∷ []) 16 (pos 4)
    ∷ starred (codes "af2") (word 9 1 8 ∷ []) 8 (minus 55)
    ∷ starred (codes "af1") (word 9 9 24 ∷ []) 16 (minus 43)
    ∷ starred (codes "af0") (word 10 1 22 ∷ []) 22 (minus 31)
    ∷ []
clock_table = refl

-- figure 20-1, sheet 2; table 20-III. The fit interval flag has bit 17 of word 10, AODO the five
-- bits after it
first_ephemeris_table : map row_of eph2_fields
    ≡ plain (codes "iode") (word 3 1 8 ∷ []) 8 (pos 0)
    ∷ starred (codes "crs") (word 3 9 24 ∷ []) 16 (minus 5)
    ∷ starred (codes "dn") (word 4 1 16 ∷ []) 16 (minus 43)
    ∷ starred (codes "m0") (word 4 17 24 ∷ word 5 1 24 ∷ []) 32 (minus 31)
    ∷ starred (codes "cuc") (word 6 1 16 ∷ []) 16 (minus 29)
    ∷ plain (codes "e") (word 6 17 24 ∷ word 7 1 24 ∷ []) 32 (minus 33)
    ∷ starred (codes "cus") (word 8 1 16 ∷ []) 16 (minus 29)
    ∷ plain (codes "sqrta") (word 8 17 24 ∷ word 9 1 24 ∷ []) 32 (minus 19)
    ∷ plain (codes "toe") (word 10 1 16 ∷ []) 16 (pos 4)
    ∷ plain (codes "fit") (word 10 17 17 ∷ []) 1 (pos 0)
    ∷ plain (codes "aodo") (word 10 18 22 ∷ []) 5 (pos 0)
    ∷ []
first_ephemeris_table = refl

-- figure 20-1, sheet 3; table 20-III
second_ephemeris_table : map row_of eph3_fields
    ≡ starred (codes "cic") (word 3 1 16 ∷ []) 16 (minus 29)
    ∷ starred (codes "om0") (word 3 17 24 ∷ word 4 1 24 ∷ []) 32 (minus 31)
    ∷ starred (codes "cis") (word 5 1 16 ∷ []) 16 (minus 29)
    ∷ starred (codes "i0") (word 5 17 24 ∷ word 6 1 24 ∷ []) 32 (minus 31)
    ∷ starred (codes "crc") (word 7 1 16 ∷ []) 16 (minus 5)
    ∷ starred (codes "w") (word 7 17 24 ∷ word 8 1 24 ∷ []) 32 (minus 31)
    ∷ starred (codes "omdot") (word 9 1 24 ∷ []) 24 (minus 43)
    ∷ plain (codes "iode3") (word 10 1 8 ∷ []) 8 (pos 0)
    ∷ starred (codes "idot") (word 10 9 22 ∷ []) 14 (minus 43)
    ∷ []
second_ephemeris_table = refl

-- figure 20-1, sheet 4; table 20-VI. Before and after af1 stand the first eight and the last three
-- bits of af0
almanac_table : map row_of almanac_fields ≡ plain (codes "data") (word 3 1 2 ∷ []) 2 (pos 0)
    ∷ plain (codes "sv") (word 3 3 8 ∷ []) 6 (pos 0)
    ∷ plain (codes "e") (word 3 9 24 ∷ []) 16 (minus 21)
    ∷ plain (codes "toa") (word 4 1 8 ∷ []) 8 (pos 12)
    ∷ starred (codes "di") (word 4 9 24 ∷ []) 16 (minus 19)
    ∷ starred (codes "omdot") (word 5 1 16 ∷ []) 16 (minus 38)
    ∷ plain (codes "health") (word 5 17 24 ∷ []) 8 (pos 0)
    ∷ plain (codes "sqrta") (word 6 1 24 ∷ []) 24 (minus 11)
    ∷ starred (codes "om0") (word 7 1 24 ∷ []) 24 (minus 23)
    ∷ starred (codes "w") (word 8 1 24 ∷ []) 24 (minus 23)
    ∷ starred (codes "m0") (word 9 1 24 ∷ []) 24 (minus 23)
    ∷ starred (codes "af0") (word 10 1 8 ∷ word 10 20 22 ∷ []) 11 (minus 20)
    ∷ starred (codes "af1") (word 10 9 19 ∷ []) 11 (minus 38)
    ∷ []
almanac_table = refl

-- page 18 of subframe 4. The ionosphere's eight have table 20-X, all after them table 20-IX. The
-- last eight bits of a0 are in word 8
utc_table : map row_of utc_fields ≡ plain (codes "data") (word 3 1 2 ∷ []) 2 (pos 0)
    ∷ plain (codes "sv") (word 3 3 8 ∷ []) 6 (pos 0)
    ∷ starred (codes "al0") (word 3 9 16 ∷ []) 8 (minus 30)
    ∷ starred (codes "al1") (word 3 17 24 ∷ []) 8 (minus 27)
    ∷ starred (codes "al2") (word 4 1 8 ∷ []) 8 (minus 24)
    ∷ starred (codes "al3") (word 4 9 16 ∷ []) 8 (minus 24)
    ∷ starred (codes "be0") (word 4 17 24 ∷ []) 8 (pos 11)
    ∷ starred (codes "be1") (word 5 1 8 ∷ []) 8 (pos 14)
    ∷ starred (codes "be2") (word 5 9 16 ∷ []) 8 (pos 16)
    ∷ starred (codes "be3") (word 5 17 24 ∷ []) 8 (pos 16)
    ∷ starred (codes "a1") (word 6 1 24 ∷ []) 24 (minus 50)
    ∷ starred (codes "a0") (word 7 1 24 ∷ word 8 1 8 ∷ []) 32 (minus 30)
    ∷ plain (codes "tot") (word 8 9 16 ∷ []) 8 (pos 12)
    ∷ plain (codes "wnt") (word 8 17 24 ∷ []) 8 (pos 0)
    ∷ starred (codes "dtls") (word 9 1 8 ∷ []) 8 (pos 0)
    ∷ plain (codes "wnlsf") (word 9 9 16 ∷ []) 8 (pos 0)
    ∷ plain (codes "dn") (word 9 17 24 ∷ []) 8 (pos 0)
    ∷ starred (codes "dtlsf") (word 10 1 8 ∷ []) 8 (pos 0)
    ∷ []
utc_table = refl

-- page 25 of subframe 5: four satellites in each of words 4 to 9, six bits each
abbrev six : List ℕ → ℕ → ℕ → Row
six name n first = plain name (word n first (first + 5) ∷ []) 6 (pos 0)

health_table : map row_of health_fields ≡ plain (codes "data") (word 3 1 2 ∷ []) 2 (pos 0)
    ∷ plain (codes "sv") (word 3 3 8 ∷ []) 6 (pos 0)
    ∷ plain (codes "toa") (word 3 9 16 ∷ []) 8 (pos 12)
    ∷ plain (codes "wna") (word 3 17 24 ∷ []) 8 (pos 0)
    ∷ six (codes "h1") 4 1 ∷ six (codes "h2") 4 7 ∷ six (codes "h3") 4 13 ∷ six (codes "h4") 4 19
    ∷ six (codes "h5") 5 1 ∷ six (codes "h6") 5 7 ∷ six (codes "h7") 5 13 ∷ six (codes "h8") 5 19
    ∷ six (codes "h9") 6 1 ∷ six (codes "h10") 6 7 ∷ six (codes "h11") 6 13 ∷ six (codes "h12") 6 19
    ∷ six (codes "h13") 7 1 ∷ six (codes "h14") 7 7 ∷ six (codes "h15") 7 13
    ∷ six (codes "h16") 7 19 ∷ six (codes "h17") 8 1 ∷ six (codes "h18") 8 7
    ∷ six (codes "h19") 8 13 ∷ six (codes "h20") 8 19 ∷ six (codes "h21") 9 1
    ∷ six (codes "h22") 9 7 ∷ six (codes "h23") 9 13 ∷ six (codes "h24") 9 19 ∷ []
unfolding digits
health_table = refl

-- page 17 of subframe 4: 22 characters of eight bits, from bit 9 of word 3 to bit 16 of word 10
abbrev eight : ℕ → ℕ → Row
eight n first = plain [] (word n first (first + 7) ∷ []) 8 (pos 0)

message_table : map row_of message_fields ≡ eight 3 9 ∷ eight 3 17
    ∷ eight 4 1 ∷ eight 4 9 ∷ eight 4 17 ∷ eight 5 1 ∷ eight 5 9 ∷ eight 5 17
    ∷ eight 6 1 ∷ eight 6 9 ∷ eight 6 17 ∷ eight 7 1 ∷ eight 7 9 ∷ eight 7 17
    ∷ eight 8 1 ∷ eight 8 9 ∷ eight 8 17 ∷ eight 9 1 ∷ eight 9 9 ∷ eight 9 17
    ∷ eight 10 1 ∷ eight 10 9 ∷ []
message_table = refl
