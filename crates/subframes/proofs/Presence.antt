-- Whether the words that hold a field are there, and what its number is cast to.
use Rattle.std.proofs.Common.{◌≡◌, ◌≢◌, ℕ, zero, suc, ◌+◌, ◌-◌, ◌*◌, ◌/◌, ◌%◌, ◌^◌, ◌<◌, ◌≤◌, refl}
use Rattle.std.proofs.Common.{sym, ap, ◌∙◌, arith, to_z, of_z}
use Rattle.std.proofs.Math.Path.{ap₂}
use Rattle.std.specs.Prelude.{Bool, true, false, ◌&&◌, nat_le, sum_by, Option, Some, None, is_some}
use Rattle.std.specs.Prelude.{ℤ, pos, ◌-ℤ◌, flat_map}
use Rattle.std.specs.Int.{w64}
use Rattle.std.specs.List.{range_with_len, list_all}
use Rattle.std.proofs.Math.Bool.{and-true, and_self}
use Rattle.std.proofs.Math.Pow.{pow_mono}
use Rattle.std.proofs.lemmas.Bool.{and_parts, cond-true, cond-false, ne_eqb}
use Rattle.std.proofs.lemmas.Int.{ints}
use Rattle.std.proofs.lemmas.List.{append-nil}
use Rattle.std.proofs.lemmas.List.Folds.{list_all-append}
use Rattle.std.proofs.lemmas.Nat.{one_shl}
use Rattle.definitions.specs.Frames.{Subframe, word_of, id_of}
use Rattle.definitions.specs.Fields as fields
use Rattle.definitions.specs.Fields.{word_at_place, places_of, is_there, value_of, field_of}
use Rattle.definitions.specs.Pages.{kind_of, kind_of_page}
use Rattle.subframes.specs.declared.layout.Bits.{Bits}
use Rattle.subframes.specs.declared.layout.Layout.{Layout}
use Rattle.subframes.specs.Layouts.{bits_in, parts_in, layout_in, size_of, is_in_one_word}
use Rattle.subframes.specs.Layouts.{is_readable, number_of_bits}
use Rattle.subframes.proofs.Numbers.{one_word, same_place}

-- a test that all of some neighbours answer alike
all_alike : (test : ℕ → Bool) (answer : Bool) (a n : ℕ)
    → ((i : ℕ) → i < suc n → test (a + i) ≡ answer)
    → list_all test (range_with_len a (suc n)) ≡ answer
all_alike test answer a zero same =
    let first : a ≡ a + 0 = omega arith in
    and-true (test a) ∙ ap test first ∙ same 0 (omega arith)
all_alike test answer a (suc n) same =
    let first : a ≡ a + 0 = omega arith in
    ap₂ (λ (x y : Bool). x && y) (ap test first ∙ same 0 (omega arith))
    (all_alike test answer (a + 1) n (λ i below. let place : a + 1 + i ≡ a + suc i = omega arith in
    ap test place ∙ same (suc i) (omega arith)))
    ∙ and_self answer

module _ (s : Subframe) where
  holds : ℕ → Bool
  holds place = is_some (word_at_place s place)

  part_there : (b : fields.Bits) → is_in_one_word b ≡ true
      → list_all holds (places_of b) ≡ holds b.first
  unfolding holds
  part_there b h =
      let w = one_word b h in
      let from_one : 1 ≤ b.first = w.from_one in
      let ordered : b.first ≤ b.last = w.ordered in
      let same_word : (b.first - 1) / 30 ≡ (b.last - 1) / 30 = w.same_word in
      let count : b.last + 1 - b.first ≡ suc (b.last - b.first) = omega arith in
      ap (λ n. list_all holds (range_with_len b.first n)) count
      ∙ all_alike holds (holds b.first) b.first (b.last - b.first)
      (λ i below. ap (λ k. is_some (word_of s (k + 1)))
      (same_place b.first b.last i from_one ordered same_word (omega arith)).0)

  module _ (head : Bits) (first : is_in_one_word (bits_in head) ≡ true) where
    one_there : (tail : Option Bits) → tail ≡ None
        → list_all holds (flat_map places_of (parts_in head tail)) ≡ holds head.first
    one_there None e = ap (list_all holds) (append-nil (places_of (bits_in head)))
        ∙ part_there (bits_in head) first
    one_there (Some b) e = absurd cc

    two_there : (tail : Option Bits) (last : Bits) → is_in_one_word (bits_in last) ≡ true
        → tail ≡ Some last
        → list_all holds (flat_map places_of (parts_in head tail))
        ≡ (holds head.first && holds last.first)
    two_there None last h e = absurd cc
    two_there (Some b) last h e =
        let same : b ≡ last = cc in
        rw (same, append-nil (places_of (bits_in last)))
        (list_all-append holds (places_of (bits_in head)) (places_of (bits_in last))
        ∙ ap₂ (λ (x y : Bool). x && y) (part_there (bits_in head) first)
        (part_there (bits_in last) h))

head_in_one_word : (head : Bits) (tail : Option Bits)
    → list_all is_in_one_word (parts_in head tail) ≡ true → is_in_one_word (bits_in head) ≡ true
head_in_one_word head None h = (and_parts (is_in_one_word (bits_in head)) true h).0
head_in_one_word head (Some b) h =
    (and_parts (is_in_one_word (bits_in head)) (is_in_one_word (bits_in b) && true) h).0

tail_in_one_word : (head : Bits) (tail : Option Bits) (last : Bits) → tail ≡ Some last
    → list_all is_in_one_word (parts_in head tail) ≡ true → is_in_one_word (bits_in last) ≡ true
tail_in_one_word head None last e h = absurd cc
tail_in_one_word head (Some b) last e h =
    let same : b ≡ last = cc in
    rw (← same) ((and_parts (is_in_one_word (bits_in b)) true
    (and_parts (is_in_one_word (bits_in head)) (is_in_one_word (bits_in b) && true) h).1).0)

in_words : (l : Layout) → is_readable (layout_in l) ≡ true
    → list_all is_in_one_word (parts_in l.head l.tail) ≡ true
in_words l h = (and_parts (list_all is_in_one_word (parts_in l.head l.tail))
    (nat_le (sum_by size_of (parts_in l.head l.tail)) 32) h).0

pub is_there-one : (s : Subframe) (l : Layout) → is_readable (layout_in l) ≡ true → l.tail ≡ None
    → is_there s (layout_in l) ≡ is_some (word_at_place s l.head.first)
unfolding holds
is_there-one s l h e = one_there s l.head (head_in_one_word l.head l.tail (in_words l h)) l.tail e

pub is_there-two : (s : Subframe) (l : Layout) (last : Bits) → is_readable (layout_in l) ≡ true
    → l.tail ≡ Some last
    → is_there s (layout_in l)
    ≡ (is_some (word_at_place s l.head.first) && is_some (word_at_place s last.first))
unfolding holds
is_there-two s l last h e =
    two_there s l.head (head_in_one_word l.head l.tail (in_words l h)) l.tail last
    (tail_in_one_word l.head l.tail last e (in_words l h)) e

-- ---- casts

pub cast-small : (n len : ℕ) → n < 2 ^ len → len ≤ 32 → to_z w64 n ≡ pos n
cast-small n len fits few =
    let most : 2 ^ len ≤ 2 ^ 32 = pow_mono few in
    let small : n < 2 ^ 32 = omega arith in
    omega (arith, ints)

pub cast-negative : (n len : ℕ) → n < 2 ^ len → len ≤ 32
    → to_z w64 (of_z w64 (to_z w64 n -ℤ to_z w64 (1 * 2 ^ len % 2 ^ 64))) ≡ pos n -ℤ pos (2 ^ len)
cast-negative n len fits few =
    let most : 2 ^ len ≤ 2 ^ 32 = pow_mono few in
    let small : n < 2 ^ 32 = omega arith in
    rw (one_shl len 64 (omega arith)) (less (2 ^ len) n fits most)
  where
    less : (p n : ℕ) → n < p → p ≤ 2 ^ 32
        → to_z w64 (of_z w64 (to_z w64 n -ℤ to_z w64 p)) ≡ pos n -ℤ pos p
    less p n a b = omega (arith, ints)

-- ---- a field, and a page

pub field_of-there : (s : Subframe) (own f : fields.Field) (value : ℤ) → own ≡ f
    → is_there s own ≡ true → value ≡ value_of s own → Some value ≡ field_of s f
unfolding field_of
field_of-there s own f value same there is =
    rw (← same, is) (sym (cond-true (is_there s own) (Some (value_of s own)) None there))

pub field_of-missing : (s : Subframe) (own f : fields.Field) → own ≡ f → is_there s own ≡ false
    → None ≡ field_of s f
unfolding field_of
field_of-missing s own f same missing =
    rw (← same) (sym (cond-false (is_there s own) (Some (value_of s own)) None missing))

pub kind_of-page : (s : Subframe) (id sv : ℕ) → id ≡ id_of s
    → sv ≡ number_of_bits s (record { first = 63; last = 68 }) → id ≢ 1 → id ≢ 2 → id ≢ 3
    → kind_of_page id sv ≡ kind_of s
unfolding number_of_bits
kind_of-page s id sv is_id is_sv ne1 ne2 ne3 =
    rw (← is_id, ne_eqb id 1 ne1, ne_eqb id 2 ne2, ne_eqb id 3 ne3, is_sv) refl
