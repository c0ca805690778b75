-- Fields in one or two parts: their number, their sign, and whether their words are there.
use Rattle.std.proofs.Common.{◌≡◌, ◌≢◌, ℕ, suc, ◌+◌, ◌-◌, ◌*◌, ◌/◌, ◌%◌, ◌^◌, ◌<◌, ◌≤◌, List, []}
use Rattle.std.proofs.Common.{◌∷◌, ◌++◌, length, map, refl, sym, ap, ◌∙◌, arith, length-append}
use Rattle.std.proofs.Math.Path.{ap₂}
use Rattle.std.specs.Prelude.{Bool, true, false, ◌&&◌, ◌==◌, nat_le, bit_or, slice_index, sum_by}
use Rattle.std.specs.Prelude.{Option, Some, None, unwrap_or, ℤ, pos, ◌-ℤ◌, flat_map}
use Rattle.std.specs.Int.Digits.{number_from_digits, number_from_digits_after, AllBelowBase}
use Rattle.std.specs.List.{list_all}
use Rattle.std.proofs.Math.Nat.{pow-suc}
use Rattle.std.proofs.lemmas.Bool.{and_parts, leb-true, eq-eqb, ne_eqb, cond-true, cond-false}
use Rattle.std.proofs.lemmas.Nat.{shr_high, shl_whole, or_shifted}
use Rattle.std.proofs.lemmas.Nat.Bits.{bit_at-lt}
use Rattle.std.proofs.lemmas.Int.{ints}
use Rattle.std.proofs.lemmas.Int.Digits.{number_after_append, number_lt}
use Rattle.std.proofs.lemmas.List.{map-append, append-nil, length-map}
use Rattle.std.proofs.lemmas.List.FromFn.{length-map-range_with_len, length-range_with_len}
use Rattle.std.proofs.lemmas.List.Sums.{sum_by-cons}
use Rattle.definitions.specs.Frames.{Subframe}
use Rattle.definitions.specs.Fields as fields
use Rattle.definitions.specs.Fields.{bit_at_place, word_at_place, places_of, all_places, number_of}
use Rattle.definitions.specs.Fields.{value_of}
use Rattle.subframes.specs.declared.layout.Bits.{Bits}
use Rattle.subframes.specs.declared.layout.Layout.{Layout}
use Rattle.subframes.specs.Layouts.{bits_in, parts_in, layout_in, size_of, is_in_one_word}
use Rattle.subframes.specs.Layouts.{is_readable, number_of_bits, number_of_parts}

-- ---- digits

pub are_binary : (s : Subframe) (ps : List ℕ) → AllBelowBase 2 (map (bit_at_place s) ps)
are_binary s [] = tt
are_binary s (p ∷ ps) =
    (bit_at-lt (unwrap_or (word_at_place s p) 0) (23 - (p - 1) % 30), are_binary s ps)

number_after-is : (n : ℕ) (ds : List ℕ)
    → number_from_digits_after 2 n ds ≡ n * 2 ^ length ds + number_from_digits_after 2 0 ds
number_after-is n [] = omega arith
number_after-is n (d ∷ ds) =
    let here : number_from_digits_after 2 (n * 2 + d) ds
    ≡ (n * 2 + d) * 2 ^ length ds + number_from_digits_after 2 0 ds =
    number_after-is (n * 2 + d) ds in
    let there : number_from_digits_after 2 (0 * 2 + d) ds
    ≡ (0 * 2 + d) * 2 ^ length ds + number_from_digits_after 2 0 ds =
    number_after-is (0 * 2 + d) ds in
    let power : 2 ^ suc (length ds) ≡ 2 ^ length ds * 2 = pow-suc 2 (length ds) in
    here ∙ together n d (2 ^ length ds) (2 ^ suc (length ds)) (number_from_digits_after 2 0 ds)
    (number_from_digits_after 2 (0 * 2 + d) ds) power there
  where
    together : (n d p q rest after : ℕ) → q ≡ p * 2 → after ≡ (0 * 2 + d) * p + rest
        → (n * 2 + d) * p + rest ≡ n * q + after
    together n d p q rest after e f = grind (arith, e, f)

number-append : (xs ys : List ℕ)
    → number_from_digits 2 (xs ++ ys)
    ≡ number_from_digits 2 xs * 2 ^ length ys + number_from_digits 2 ys
number-append xs ys = number_after_append 2 0 xs ys ∙ number_after-is (number_from_digits 2 xs) ys

-- the highest digit
first_digit : (ds : List ℕ) → AllBelowBase 2 ds → 1 ≤ length ds
    → slice_index ds 0 ≡ number_from_digits 2 ds / 2 ^ (length ds - 1)
first_digit [] all some = absurd (omega arith)
first_digit (d ∷ ds) all some =
    let rest : number_from_digits 2 ds < 2 ^ length ds = number_lt 2 ds all.1 in
    let whole : number_from_digits 2 (d ∷ ds)
    ≡ (0 * 2 + d) * 2 ^ length ds + number_from_digits 2 ds = number_after-is (0 * 2 + d) ds in
    let others : suc (length ds) - 1 ≡ length ds = omega arith in
    let own : 0 * 2 + d ≡ d = omega arith in
    sym (rw (whole, others, shr_high (0 * 2 + d) (length ds) (number_from_digits 2 ds) rest) own)

-- ---- the number of all parts

length_places : (bs : List fields.Bits) → length (flat_map places_of bs) ≡ sum_by size_of bs
length_places [] = refl
length_places (b ∷ bs) =
    length-append (places_of b) (flat_map places_of bs)
    ∙ ap₂ (λ (x y : ℕ). x + y) (length-range_with_len b.first (size_of b)) (length_places bs)
    ∙ sym (sum_by-cons size_of b bs)

length_digits : (s : Subframe) (f : fields.Field)
    → length (map (bit_at_place s) (all_places f)) ≡ sum_by size_of f.parts
length_digits s f = length-map (all_places f) (bit_at_place s) ∙ length_places f.parts

pub number_of_parts-lt : (s : Subframe) (f : fields.Field)
    → number_of_parts s f < 2 ^ sum_by size_of f.parts
unfolding number_of_parts
number_of_parts-lt s f =
    rw length_digits at (number_lt 2 (map (bit_at_place s) (all_places f))
    (are_binary s (all_places f)))

module _ (s : Subframe) (head : Bits) where
  number_in : Option Bits → ℕ
  number_in tail = number_from_digits 2
      (map (bit_at_place s) (flat_map places_of (parts_in head tail)))

  one_in : (tail : Option Bits) → tail ≡ None → number_in tail ≡ number_of_bits s (bits_in head)
  unfolding number_in number_of_bits
  one_in None e = ap (λ ps. number_from_digits 2 (map (bit_at_place s) ps))
      (append-nil (places_of (bits_in head)))
  one_in (Some b) e = absurd cc

  two_in : (tail : Option Bits) (last : Bits) → tail ≡ Some last
      → number_in tail ≡ number_of_bits s (bits_in head) * 2 ^ size_of (bits_in last)
      + number_of_bits s (bits_in last)
  unfolding number_in number_of_bits
  two_in None last e = absurd cc
  two_in (Some b) last e =
      let same : b ≡ last = cc in
      rw (
        ← same,
        append-nil (places_of (bits_in b)),
        map-append (bit_at_place s) (places_of (bits_in head)) (places_of (bits_in b)),
      )
      (number-append (map (bit_at_place s) (places_of (bits_in head)))
      (map (bit_at_place s) (places_of (bits_in b)))
      ∙ ap (λ (k : ℕ). number_from_digits 2 (map (bit_at_place s) (places_of (bits_in head)))
      * 2 ^ k + number_from_digits 2 (map (bit_at_place s) (places_of (bits_in b))))
      (length-map-range_with_len (bit_at_place s) b.first (size_of (bits_in b))))

pub one_part : (s : Subframe) (l : Layout) → l.tail ≡ None
    → number_of_parts s (layout_in l) ≡ number_of_bits s (bits_in l.head)
unfolding number_of_parts number_in
one_part s l e = one_in s l.head l.tail e

pub two_parts : (s : Subframe) (l : Layout) (last : Bits) → l.tail ≡ Some last
    → number_of_parts s (layout_in l)
    ≡ number_of_bits s (bits_in l.head) * 2 ^ size_of (bits_in last)
    + number_of_bits s (bits_in last)
unfolding number_of_parts number_in
two_parts s l last e = two_in s l.head l.tail last e

-- at most 32 bits are in all parts
two_sizes : (head : Bits) (tail : Option Bits) (last : Bits) → tail ≡ Some last
    → nat_le (sum_by size_of (parts_in head tail)) 32 ≡ true
    → size_of (bits_in head) + size_of (bits_in last) ≤ 32
two_sizes head None last e h = absurd cc
two_sizes head (Some b) last e h =
    let same : b ≡ last = cc in
    let sum : sum_by size_of (bits_in head ∷ bits_in b ∷ [])
    ≡ size_of (bits_in head) + (size_of (bits_in b) + 0) =
    sum_by-cons size_of (bits_in head) (bits_in b ∷ [])
    ∙ ap (λ (k : ℕ). size_of (bits_in head) + k) (sum_by-cons size_of (bits_in b) []) in
    let few : sum_by size_of (bits_in head ∷ bits_in b ∷ []) ≤ 32 =
    leb-true (sum_by size_of (bits_in head ∷ bits_in b ∷ [])) 32 h in
    rw (← same) (omega arith)

pub joined_parts : (s : Subframe) (l : Layout) (last : Bits) (high len low : ℕ)
    → is_readable (layout_in l) ≡ true → l.tail ≡ Some last → len ≡ size_of (bits_in last)
    → high ≡ number_of_bits s (bits_in l.head) → high < 2 ^ size_of (bits_in l.head)
    → low ≡ number_of_bits s (bits_in last) → low < 2 ^ size_of (bits_in last)
    → bit_or (high * 2 ^ len % 2 ^ 64) low ≡ number_of_parts s (layout_in l)
joined_parts s l last high len low h e long is_high high_fits is_low low_fits =
    let few = (and_parts (list_all is_in_one_word (parts_in l.head l.tail))
    (nat_le (sum_by size_of (parts_in l.head l.tail)) 32) h).1 in
    let short : size_of (bits_in l.head) + size_of (bits_in last) ≤ 32 =
    two_sizes l.head l.tail last e few in
    let fits : size_of (bits_in l.head) + len ≤ 64 = omega arith in
    let below : low < 2 ^ len = rw long low_fits in
    ap (λ (k : ℕ). bit_or k low) (shl_whole high (size_of (bits_in l.head)) len 64 high_fits fits)
    ∙ or_shifted high len low below
    ∙ rw (long, is_high, is_low) (sym (two_parts s l last e))

-- ---- two's complement

module _ (is_signed : Bool) (ds : List ℕ) (n len : ℕ) (all : AllBelowBase 2 ds)
    (long : length ds ≡ len) (some : 1 ≤ len) (is : n ≡ number_from_digits 2 ds) where
  top : slice_index ds 0 ≡ n / 2 ^ (len - 1)
  top = first_digit ds all (omega arith) ∙ ap₂ (λ (m k : ℕ). m / 2 ^ (k - 1)) (sym is) long

  pub number_of-negative : is_signed ≡ true → n / 2 ^ (len - 1) ≡ 1
      → number_of is_signed ds ≡ pos n -ℤ pos (2 ^ len)
  number_of-negative e h =
      let test : (is_signed && (slice_index ds 0 == 1)) ≡ true =
      rw e (eq-eqb (slice_index ds 0) 1 (top ∙ h)) in
      ap₂ (λ (x y : ℤ). x -ℤ y) (ap pos (sym is))
      (cond-true (is_signed && (slice_index ds 0 == 1)) (pos (2 ^ length ds)) (pos 0) test
      ∙ ap (λ (k : ℕ). pos (2 ^ k)) long)

  number_of-other : (is_signed && (slice_index ds 0 == 1)) ≡ false → number_of is_signed ds ≡ pos n
  number_of-other test =
      let less : pos n -ℤ pos 0 ≡ pos n = omega (arith, ints) in
      ap₂ (λ (x y : ℤ). x -ℤ y) (ap pos (sym is))
      (cond-false (is_signed && (slice_index ds 0 == 1)) (pos (2 ^ length ds)) (pos 0) test)
      ∙ less

  pub number_of-unsigned : is_signed ≡ false → number_of is_signed ds ≡ pos n
  number_of-unsigned e = number_of-other (rw e refl)

  pub number_of-positive : is_signed ≡ true → n / 2 ^ (len - 1) ≢ 1 → number_of is_signed ds ≡ pos n
  number_of-positive e h =
      number_of-other (rw e (ne_eqb (slice_index ds 0) 1 (λ f. h (sym top ∙ f))))

-- ---- the value of a field, by its number and its size

module _ (s : Subframe) (f : fields.Field) (n len : ℕ) (long : len ≡ sum_by size_of f.parts)
    (some : 1 ≤ len) (is : n ≡ number_of_parts s f) where
  is_number : n ≡ number_from_digits 2 (map (bit_at_place s) (all_places f))
  unfolding number_of_parts
  is_number = is

  has_len : length (map (bit_at_place s) (all_places f)) ≡ len
  has_len = length_digits s f ∙ sym long

  pub value_of-negative : f.is_signed ≡ true → n / 2 ^ (len - 1) ≡ 1
      → value_of s f ≡ pos n -ℤ pos (2 ^ len)
  value_of-negative = number_of-negative f.is_signed (map (bit_at_place s) (all_places f)) n len
      (are_binary s (all_places f)) has_len some is_number

  pub value_of-unsigned : f.is_signed ≡ false → value_of s f ≡ pos n
  value_of-unsigned = number_of-unsigned f.is_signed (map (bit_at_place s) (all_places f)) n len
      (are_binary s (all_places f)) has_len some is_number

  pub value_of-positive : f.is_signed ≡ true → n / 2 ^ (len - 1) ≢ 1 → value_of s f ≡ pos n
  value_of-positive = number_of-positive f.is_signed (map (bit_at_place s) (all_places f)) n len
      (are_binary s (all_places f)) has_len some is_number

-- one part alone, as the definition joins it
pub number_of_bits-alone : (s : Subframe) (b : fields.Bits)
    → number_of_bits s b ≡ number_from_digits 2 (map (bit_at_place s) (places_of b ++ [])) + 0
unfolding number_of_bits
number_of_bits-alone s b =
    ap (λ ps. number_from_digits 2 (map (bit_at_place s) ps)) (sym (append-nil (places_of b)))
    ∙ omega arith
