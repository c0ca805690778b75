-- The tables of fields (IS-GPS-200, sections 20.3.3.3 to 20.3.3.5): of each field its sign, 1 for
-- two's complement, the first and the last bit of each of its parts, and its exponent.
use Rattle.std.proofs.Common.{◌≡◌, ℕ, List, [], ◌∷◌, refl}
use Rattle.std.specs.Prelude.{ℤ, pos, neg_ℤ, map, if◌then◌else◌}
use Rattle.definitions.specs.Fields.{Field, Bits, clock_fields, eph2_fields, eph3_fields}
use Rattle.definitions.specs.Fields.{almanac_fields, utc_fields, health_fields}
use Rattle.definitions.specs.Fields.{message_fields}
use Rattle.std.specs.Prelude.{replicate, ◌+◌}

abbrev ends : List Bits → List ℕ
ends [] = []
ends (b ∷ bs) = b.first ∷ b.last ∷ ends bs

-- the sign of a field and the ends of its parts
abbrev sign_and_ends : Field → List ℕ
sign_and_ends f = (if f.is_signed then 1 else 0) ∷ ends f.parts

abbrev places : List Field → List (List ℕ)
places fields = map sign_and_ends fields

abbrev exponents : List Field → List ℤ
exponents fields = map (λ (f : Field). f.exponent) fields

clock_places : places clock_fields ≡ (0 ∷ 61 ∷ 70 ∷ []) ∷ (0 ∷ 71 ∷ 72 ∷ []) ∷ (0 ∷ 73 ∷ 76 ∷ [])
    ∷ (0 ∷ 77 ∷ 82 ∷ []) ∷ (0 ∷ 83 ∷ 84 ∷ 211 ∷ 218 ∷ []) ∷ (0 ∷ 91 ∷ 91 ∷ [])
    ∷ (1 ∷ 197 ∷ 204 ∷ []) ∷ (0 ∷ 219 ∷ 234 ∷ []) ∷ (1 ∷ 241 ∷ 248 ∷ []) ∷ (1 ∷ 249 ∷ 264 ∷ [])
    ∷ (1 ∷ 271 ∷ 292 ∷ []) ∷ []
clock_places = refl

clock_exponents : exponents clock_fields ≡ pos 0 ∷ pos 0 ∷ pos 0 ∷ pos 0 ∷ pos 0 ∷ pos 0
    ∷ neg_ℤ (pos 31) ∷ pos 4 ∷ neg_ℤ (pos 55) ∷ neg_ℤ (pos 43) ∷ neg_ℤ (pos 31) ∷ []
clock_exponents = refl

eph2_places : places eph2_fields ≡ (0 ∷ 61 ∷ 68 ∷ []) ∷ (1 ∷ 69 ∷ 84 ∷ []) ∷ (1 ∷ 91 ∷ 106 ∷ [])
    ∷ (1 ∷ 107 ∷ 114 ∷ 121 ∷ 144 ∷ []) ∷ (1 ∷ 151 ∷ 166 ∷ []) ∷ (0 ∷ 167 ∷ 174 ∷ 181 ∷ 204 ∷ [])
    ∷ (1 ∷ 211 ∷ 226 ∷ []) ∷ (0 ∷ 227 ∷ 234 ∷ 241 ∷ 264 ∷ []) ∷ (0 ∷ 271 ∷ 286 ∷ [])
    ∷ (0 ∷ 287 ∷ 287 ∷ []) ∷ (0 ∷ 288 ∷ 292 ∷ []) ∷ []
eph2_places = refl

eph2_exponents : exponents eph2_fields ≡ pos 0 ∷ neg_ℤ (pos 5) ∷ neg_ℤ (pos 43) ∷ neg_ℤ (pos 31)
    ∷ neg_ℤ (pos 29) ∷ neg_ℤ (pos 33) ∷ neg_ℤ (pos 29) ∷ neg_ℤ (pos 19) ∷ pos 4 ∷ pos 0 ∷ pos 0
    ∷ []
eph2_exponents = refl

eph3_places : places eph3_fields ≡ (1 ∷ 61 ∷ 76 ∷ []) ∷ (1 ∷ 77 ∷ 84 ∷ 91 ∷ 114 ∷ [])
    ∷ (1 ∷ 121 ∷ 136 ∷ []) ∷ (1 ∷ 137 ∷ 144 ∷ 151 ∷ 174 ∷ []) ∷ (1 ∷ 181 ∷ 196 ∷ [])
    ∷ (1 ∷ 197 ∷ 204 ∷ 211 ∷ 234 ∷ []) ∷ (1 ∷ 241 ∷ 264 ∷ []) ∷ (0 ∷ 271 ∷ 278 ∷ [])
    ∷ (1 ∷ 279 ∷ 292 ∷ []) ∷ []
eph3_places = refl

eph3_exponents : exponents eph3_fields ≡ neg_ℤ (pos 29) ∷ neg_ℤ (pos 31) ∷ neg_ℤ (pos 29)
    ∷ neg_ℤ (pos 31) ∷ neg_ℤ (pos 5) ∷ neg_ℤ (pos 31) ∷ neg_ℤ (pos 43) ∷ pos 0 ∷ neg_ℤ (pos 43)
    ∷ []
eph3_exponents = refl

almanac_places : places almanac_fields ≡ (0 ∷ 61 ∷ 62 ∷ []) ∷ (0 ∷ 63 ∷ 68 ∷ [])
    ∷ (0 ∷ 69 ∷ 84 ∷ []) ∷ (0 ∷ 91 ∷ 98 ∷ []) ∷ (1 ∷ 99 ∷ 114 ∷ []) ∷ (1 ∷ 121 ∷ 136 ∷ [])
    ∷ (0 ∷ 137 ∷ 144 ∷ []) ∷ (0 ∷ 151 ∷ 174 ∷ []) ∷ (1 ∷ 181 ∷ 204 ∷ []) ∷ (1 ∷ 211 ∷ 234 ∷ [])
    ∷ (1 ∷ 241 ∷ 264 ∷ []) ∷ (1 ∷ 271 ∷ 278 ∷ 290 ∷ 292 ∷ []) ∷ (1 ∷ 279 ∷ 289 ∷ []) ∷ []
almanac_places = refl

almanac_exponents : exponents almanac_fields ≡ pos 0 ∷ pos 0 ∷ neg_ℤ (pos 21) ∷ pos 12
    ∷ neg_ℤ (pos 19) ∷ neg_ℤ (pos 38) ∷ pos 0 ∷ neg_ℤ (pos 11) ∷ neg_ℤ (pos 23) ∷ neg_ℤ (pos 23)
    ∷ neg_ℤ (pos 23) ∷ neg_ℤ (pos 20) ∷ neg_ℤ (pos 38) ∷ []
almanac_exponents = refl

utc_places : places utc_fields ≡ (0 ∷ 61 ∷ 62 ∷ []) ∷ (0 ∷ 63 ∷ 68 ∷ []) ∷ (1 ∷ 69 ∷ 76 ∷ [])
    ∷ (1 ∷ 77 ∷ 84 ∷ []) ∷ (1 ∷ 91 ∷ 98 ∷ []) ∷ (1 ∷ 99 ∷ 106 ∷ []) ∷ (1 ∷ 107 ∷ 114 ∷ [])
    ∷ (1 ∷ 121 ∷ 128 ∷ []) ∷ (1 ∷ 129 ∷ 136 ∷ []) ∷ (1 ∷ 137 ∷ 144 ∷ []) ∷ (1 ∷ 151 ∷ 174 ∷ [])
    ∷ (1 ∷ 181 ∷ 204 ∷ 211 ∷ 218 ∷ []) ∷ (0 ∷ 219 ∷ 226 ∷ []) ∷ (0 ∷ 227 ∷ 234 ∷ [])
    ∷ (1 ∷ 241 ∷ 248 ∷ []) ∷ (0 ∷ 249 ∷ 256 ∷ []) ∷ (0 ∷ 257 ∷ 264 ∷ []) ∷ (1 ∷ 271 ∷ 278 ∷ [])
    ∷ []
utc_places = refl

utc_exponents : exponents utc_fields ≡ pos 0 ∷ pos 0 ∷ neg_ℤ (pos 30) ∷ neg_ℤ (pos 27)
    ∷ neg_ℤ (pos 24) ∷ neg_ℤ (pos 24) ∷ pos 11 ∷ pos 14 ∷ pos 16 ∷ pos 16 ∷ neg_ℤ (pos 50)
    ∷ neg_ℤ (pos 30) ∷ pos 12 ∷ pos 0 ∷ pos 0 ∷ pos 0 ∷ pos 0 ∷ pos 0 ∷ []
utc_exponents = refl

health_places : places health_fields ≡ (0 ∷ 61 ∷ 62 ∷ []) ∷ (0 ∷ 63 ∷ 68 ∷ [])
    ∷ (0 ∷ 69 ∷ 76 ∷ []) ∷ (0 ∷ 77 ∷ 84 ∷ []) ∷ (0 ∷ 91 ∷ 96 ∷ []) ∷ (0 ∷ 97 ∷ 102 ∷ [])
    ∷ (0 ∷ 103 ∷ 108 ∷ []) ∷ (0 ∷ 109 ∷ 114 ∷ []) ∷ (0 ∷ 121 ∷ 126 ∷ []) ∷ (0 ∷ 127 ∷ 132 ∷ [])
    ∷ (0 ∷ 133 ∷ 138 ∷ []) ∷ (0 ∷ 139 ∷ 144 ∷ []) ∷ (0 ∷ 151 ∷ 156 ∷ []) ∷ (0 ∷ 157 ∷ 162 ∷ [])
    ∷ (0 ∷ 163 ∷ 168 ∷ []) ∷ (0 ∷ 169 ∷ 174 ∷ []) ∷ (0 ∷ 181 ∷ 186 ∷ []) ∷ (0 ∷ 187 ∷ 192 ∷ [])
    ∷ (0 ∷ 193 ∷ 198 ∷ []) ∷ (0 ∷ 199 ∷ 204 ∷ []) ∷ (0 ∷ 211 ∷ 216 ∷ []) ∷ (0 ∷ 217 ∷ 222 ∷ [])
    ∷ (0 ∷ 223 ∷ 228 ∷ []) ∷ (0 ∷ 229 ∷ 234 ∷ []) ∷ (0 ∷ 241 ∷ 246 ∷ []) ∷ (0 ∷ 247 ∷ 252 ∷ [])
    ∷ (0 ∷ 253 ∷ 258 ∷ []) ∷ (0 ∷ 259 ∷ 264 ∷ []) ∷ []
health_places = refl

health_exponents : exponents health_fields ≡ pos 0 ∷ pos 0 ∷ pos 12 ∷ pos 0 ∷ pos 0 ∷ pos 0
    ∷ pos 0 ∷ pos 0 ∷ pos 0 ∷ pos 0 ∷ pos 0 ∷ pos 0 ∷ pos 0 ∷ pos 0 ∷ pos 0 ∷ pos 0 ∷ pos 0
    ∷ pos 0 ∷ pos 0 ∷ pos 0 ∷ pos 0 ∷ pos 0 ∷ pos 0 ∷ pos 0 ∷ pos 0 ∷ pos 0 ∷ pos 0 ∷ pos 0 ∷ []
health_exponents = refl

-- 22 characters, each of a whole byte: two in word 3, three in each of words 4 to 9, two in word 10
message_places : places message_fields ≡ map (λ first. 0 ∷ first ∷ (first + 7) ∷ [])
    (69 ∷ 77 ∷ 91 ∷ 99 ∷ 107 ∷ 121 ∷ 129 ∷ 137 ∷ 151 ∷ 159 ∷ 167 ∷ 181 ∷ 189 ∷ 197 ∷ 211 ∷ 219
    ∷ 227 ∷ 241 ∷ 249 ∷ 257 ∷ 271 ∷ 279 ∷ [])
message_places = refl

message_exponents : exponents message_fields ≡ replicate 22 (pos 0)
message_exponents = refl
