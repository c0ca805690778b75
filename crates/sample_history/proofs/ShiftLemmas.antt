-- The bits of bytes that are read from any bit on.
use Rattle.std.proofs.Common.{inl, inr, ◌≡◌, ℕ, zero, suc, ◌+◌, ◌-◌, ◌*◌, ◌/◌, ◌%◌, ◌^◌, ◌<◌, ◌≤◌}
use Rattle.std.proofs.Common.{List, ◌∷◌, [], ◌++◌, length, take, drop, refl, sym, ap, ◌∙◌, arith}
use Rattle.std.specs.Prelude.{slice_index}
use Rattle.std.specs.Int.{bit_at}
use Rattle.std.proofs.lemmas.Bool.{cases_lt}
use Rattle.std.proofs.lemmas.Nat.{shr-shr, shr_split}
use Rattle.std.proofs.lemmas.Nat.Bits.{bit_at_cat_low, bit_at_cat_high}
use Rattle.std.proofs.lemmas.List.{get_or-append-add}
use Rattle.std.proofs.lemmas.List.FromFn.{get_or-map-range_with_len, length-map-range_with_len}
use Rattle.std.proofs.lemmas.List.FromFn.{map-range_with_len_more, fill_by_all}
use Rattle.std.proofs.lemmas.List.{get_or-take, get_or-drop, length-take-le, length-drop}
use Rattle.definitions.specs.Samples.{bit_in}
use Rattle.sample_history.specs.Shifts.{eight_bits, byte_from, bytes_from, byte_of_two}

low_bit : (n i : ℕ) → i < 8 → bit_at (n % 2 ^ 8) i ≡ bit_at n i
low_bit n i h =
    sym (bit_at_cat_low (n / 2 ^ 8) 8 (n % 2 ^ 8) i h)
    ∙ ap (λ (x : ℕ). bit_at x i) (shr_split n 8)

-- a bit of eight that are read from a number
read_bit : (v s j : ℕ) → j < 8 → bit_at (v / 2 ^ s % 2 ^ 8) (7 - j) ≡ bit_at v (s + (7 - j))
read_bit v s j h =
    low_bit (v / 2 ^ s) (7 - j) (omega arith) ∙ ap (λ (x : ℕ). x % 2) (shr-shr v s (7 - j))

byte_from-bit : (bytes : List ℕ) (place j : ℕ) → j < 8
    → bit_at (byte_from bytes place) (7 - j) ≡ bit_in bytes (place + j)
unfolding byte_from eight_bits
byte_from-bit bytes place j h =
    let high : ℕ = slice_index bytes (place / 8) in
    let low : ℕ = slice_index bytes (place / 8 + 1) in
    let at : ℕ = 8 - place % 8 + (7 - j) in
    let small : low % 2 ^ 8 < 2 ^ 8 = omega arith in
    read_bit (high * 2 ^ 8 + low % 2 ^ 8) (8 - place % 8) j h
    ∙ elim (cases_lt (place % 8 + j) 8) [
      | inl inside ↦
          let byte : (place + j) / 8 ≡ place / 8 = omega (arith, inside) in
          let bit : 7 - (place + j) % 8 ≡ at - 8 = omega (arith, inside, h) in
          rw (byte, bit) (bit_at_cat_high high 8 (low % 2 ^ 8) at small (omega (arith, inside, h)))
      | inr behind ↦
          let byte : (place + j) / 8 ≡ place / 8 + 1 = omega (arith, behind, h) in
          let bit : 7 - (place + j) % 8 ≡ at = omega (arith, behind, h) in
          rw (byte, bit) (bit_at_cat_low high 8 (low % 2 ^ 8) at (omega (arith, behind, h))
          ∙ low_bit low at (omega (arith, behind, h)))
    ]

pub bytes_from-bit : (bytes : List ℕ) (place count q : ℕ) → q < 8 * count
    → bit_in (bytes_from bytes place count) q ≡ bit_in bytes (place + q)
unfolding bytes_from
bytes_from-bit bytes place count q h =
    let there : place + 8 * (q / 8) + q % 8 ≡ place + q = omega arith in
    ap (λ (x : ℕ). bit_at x (7 - q % 8))
    (get_or-map-range_with_len (λ k. byte_from bytes (place + 8 * k)) 0 count (q / 8) (q / 8) 0
    (omega (arith, h)) (omega arith))
    ∙ byte_from-bit bytes (place + 8 * (q / 8)) (q % 8) (omega arith) ∙ ap (bit_in bytes) there

byte_of_two-front : (before behind count j : ℕ) → j < count → count < 8
    → bit_at (byte_of_two before behind count) (7 - j) ≡ bit_at before (7 - j)
unfolding byte_of_two
byte_of_two-front before behind count j inside few =
    let at : ℕ = count + (7 - j) in
    let place : 8 - count + (at - 8) ≡ 7 - j = omega (arith, inside, few) in
    let small : behind % 2 ^ 8 < 2 ^ 8 = omega arith in
    read_bit (before / 2 ^ (8 - count) * 2 ^ 8 + behind % 2 ^ 8) count j
    (omega (arith, inside, few))
    ∙ bit_at_cat_high (before / 2 ^ (8 - count)) 8 (behind % 2 ^ 8) at small
    (omega (arith, inside, few))
    ∙ ap (λ (x : ℕ). x % 2) (shr-shr before (8 - count) (at - 8)) ∙ ap (bit_at before) place

byte_of_two-back : (before behind count j : ℕ) → count ≤ j → j < 8
    → bit_at (byte_of_two before behind count) (7 - j) ≡ bit_at behind (7 - (j - count))
unfolding byte_of_two
byte_of_two-back before behind count j from inside =
    let at : ℕ = count + (7 - j) in
    let place : at ≡ 7 - (j - count) = omega (arith, inside, from) in
    read_bit (before / 2 ^ (8 - count) * 2 ^ 8 + behind % 2 ^ 8) count j inside
    ∙ bit_at_cat_low (before / 2 ^ (8 - count)) 8 (behind % 2 ^ 8) at (omega (arith, inside, from))
    ∙ low_bit behind at (omega (arith, inside, from)) ∙ ap (bit_at behind) place

-- the byte that was begun keeps its bits
pub begun-bit : (before behind count q : ℕ) (rest : List ℕ) → q < count → count < 8
    → bit_in (byte_of_two before behind count ∷ rest) q ≡ bit_in (before ∷ []) q
begun-bit before behind count q rest inside few =
    let byte : q / 8 ≡ 0 = omega (arith, inside, few) in
    let bit : q % 8 ≡ q = omega (arith, inside, few) in
    rw (byte, bit) (byte_of_two-front before behind count q inside few)

-- and after them come those of the run, in the bytes after it too
pub behind-bit : (before : ℕ) (bytes : List ℕ) (start count whole q : ℕ) → count < 8 → count ≤ q
    → q < 8 * (1 + whole)
    → bit_in (byte_of_two before (byte_from bytes start) count
    ∷ bytes_from bytes (start + 8 - count) whole) q ≡ bit_in bytes (start + (q - count))
behind-bit before bytes start count whole q few from short =
    elim (cases_lt q 8) [
      | inl inside ↦
          let byte : q / 8 ≡ 0 = omega (arith, inside) in
          let bit : q % 8 ≡ q = omega (arith, inside) in
          rw (byte, bit) (byte_of_two-back before (byte_from bytes start) count q from inside
          ∙ byte_from-bit bytes start (q - count) (omega (arith, inside, from)))
      | inr above ↦
          let byte : q / 8 ≡ 1 + (q - 8) / 8 = omega (arith, above) in
          let bit : q % 8 ≡ (q - 8) % 8 = omega (arith, above) in
          let there : start + 8 - count + (q - 8) ≡ start + (q - count) =
          omega (arith, above, from, few) in
          let rest : List ℕ = bytes_from bytes (start + 8 - count) whole in
          rw (byte, bit) (ap (λ (x : ℕ). bit_at x (7 - (q - 8) % 8)) (get_or-append-add
          (byte_of_two before (byte_from bytes start) count ∷ []) rest ((q - 8) / 8) 0)
          ∙ bytes_from-bit bytes (start + 8 - count) whole (q - 8)
          (omega (arith, above, short)) ∙ ap (bit_in bytes) there)
    ]

-- bytes that are read one by one
pub read_on : (bytes : List ℕ) (place k : ℕ)
    → eight_bits (slice_index bytes (place / 8 + k)) (slice_index bytes (place / 8 + k + 1))
    (place % 8) ≡ byte_from bytes (place + 8 * k)
unfolding byte_from
read_on bytes place k =
    let byte : (place + 8 * k) / 8 ≡ place / 8 + k = omega arith in
    let bit : (place + 8 * k) % 8 ≡ place % 8 = omega arith in
    rw (byte, bit) refl

pub read_whole : (bytes : List ℕ) (place : ℕ) → place % 8 ≡ 0
    → slice_index bytes (place / 8) < 256
    → slice_index bytes (place / 8) ≡ byte_from bytes place
unfolding byte_from eight_bits
read_whole bytes place even small =
    let high : ℕ = slice_index bytes (place / 8) in
    let low : ℕ = slice_index bytes (place / 8 + 1) in
    rw even (go high low small)
  where
    go : (high low : ℕ) → high < 256 → high ≡ (high * 256 + low % 256) / 256 % 256
    go high low h = omega arith

pub bytes_from-length : (bytes : List ℕ) (place n : ℕ) → length (bytes_from bytes place n) ≡ n
unfolding bytes_from
bytes_from-length bytes place n =
    length-map-range_with_len (λ k. byte_from bytes (place + 8 * k)) 0 n

pub bytes_from-more : (bytes : List ℕ) (place n : ℕ)
    → bytes_from bytes place (n + 1)
    ≡ bytes_from bytes place n ++ byte_from bytes (place + 8 * n) ∷ []
unfolding bytes_from
bytes_from-more bytes place n =
    map-range_with_len_more (λ k. byte_from bytes (place + 8 * k)) 0 n n (omega arith)

pub bytes_from-none : (bytes : List ℕ) (place : ℕ) → bytes_from bytes place 0 ≡ []
unfolding bytes_from
bytes_from-none bytes place = refl

none_begun : (begun behind : ℕ) → behind < 256 → byte_of_two begun behind 0 ≡ behind
unfolding byte_of_two
none_begun begun behind small = omega arith

byte_from-small : (bytes : List ℕ) (place : ℕ) → byte_from bytes place < 256
unfolding byte_from eight_bits
byte_from-small bytes place = omega arith

-- where no bit of a byte stays, it is the first of those that follow
pub bytes_from-first : (begun : ℕ) (bytes : List ℕ) (place n : ℕ)
    → bytes_from bytes place n ++ byte_from bytes (place + 8 * n) ∷ []
    ≡ byte_of_two begun (byte_from bytes place) 0 ∷ bytes_from bytes (place + 8) n
bytes_from-first begun bytes place zero =
    let at : place + 8 * 0 ≡ place = omega arith in
    rw (bytes_from-none bytes place, bytes_from-none bytes (place + 8), at)
    (ap (λ (x : ℕ). x ∷ []) (sym (none_begun begun (byte_from bytes place)
    (byte_from-small bytes place))))
bytes_from-first begun bytes place (suc n) =
    let next : suc n ≡ n + 1 = omega arith in
    let at : place + 8 + 8 * n ≡ place + 8 * (n + 1) = omega arith in
    rw (
      next,
      bytes_from-more bytes place n,
      bytes_from-more bytes (place + 8) n,
      bytes_from-first begun bytes place n,
      at,
    ) refl

-- bytes that are copied whole
pub copied : (bytes : List ℕ) (place count : ℕ) → place % 8 ≡ 0
    → place / 8 + count ≤ length bytes → ((i : ℕ) → slice_index bytes i < 256)
    → take (place / 8 + count - place / 8) (drop (place / 8) bytes) ≡ bytes_from bytes place count
unfolding bytes_from
copied bytes place count even within small =
    let many : place / 8 + count - place / 8 ≡ count = omega arith in
    rw many (fill_by_all (λ (k : ℕ). byte_from bytes (place + 8 * k))
    (take count (drop (place / 8) bytes)) count 0
    (length-take-le count (drop (place / 8) bytes) (rw length-drop (omega (arith, within))))
    (λ k h.
    let at : (place + 8 * k) / 8 ≡ place / 8 + k = omega arith in
    get_or-take count (drop (place / 8) bytes) k 0 h ∙ get_or-drop (place / 8) bytes k 0
    ∙ ap (slice_index bytes) (sym at)
    ∙ read_whole bytes (place + 8 * k) (omega (arith, even)) (small ((place + 8 * k) / 8))))
