-- The numbers that consecutive bits of a subframe write, read a word at a time.
use Rattle.std.proofs.Common.{◌≡◌, ℕ, zero, suc, ◌+◌, ◌-◌, ◌*◌, ◌/◌, ◌%◌, ◌^◌, ◌<◌, ◌≤◌, map, refl}
use Rattle.std.proofs.Common.{sym, ap, ◌∙◌, arith}
use Rattle.std.specs.Prelude.{true, bit_and, unwrap_or, nat_le, nat_lt, ◌==◌, ◌&&◌}
use Rattle.std.specs.Int.{bit_at}
use Rattle.std.specs.Int.Digits.{number_from_digits}
use Rattle.std.specs.List.{range_with_len}
use Rattle.std.proofs.lemmas.Bool.{and_parts, ltb-true, leb-true, eqb-true}
use Rattle.std.proofs.lemmas.Nat.{shr-shr, mod-pow-add, and_mask, one_shl}
use Rattle.std.proofs.lemmas.Int.Digits.{number_push}
use Rattle.std.proofs.lemmas.List.FromFn.{map-range_with_len_more}
use Rattle.std.proofs.Math.Nat.{mod-one}
use Rattle.definitions.specs.Frames.{Subframe, word_of}
use Rattle.definitions.specs.Fields as fields
use Rattle.definitions.specs.Fields.{bit_at_place, places_of, all_places}
use Rattle.subframes.specs.Layouts.{size_of, is_in_one_word, number_of_bits}

-- n digits that are neighbouring bits of a number, the first of them after h - 1 others
number-of_neighbours : (d : ℕ → ℕ) (x a h n : ℕ) → n ≤ h
    → ((i : ℕ) → i < n → d (a + i) ≡ bit_at x (h - 1 - i))
    → number_from_digits 2 (map d (range_with_len a n)) ≡ x / 2 ^ (h - n) % 2 ^ n
number-of_neighbours d x a h zero within same = sym (mod-one (x / 2 ^ (h - 0)))
number-of_neighbours d x a h (suc n) within same =
    let j : ℕ = h - suc n in
    let above : j + 1 ≡ h - n = omega arith in
    let below : h - 1 - n ≡ j = omega arith in
    let half : x / 2 ^ j / 2 ^ 1 % 2 ^ n ≡ x / 2 ^ (h - n) % 2 ^ n =
    ap (λ (y : ℕ). y % 2 ^ n) (shr-shr x j 1 ∙ ap (λ (i : ℕ). x / 2 ^ i) above) in
    let last : x / 2 ^ j % 2 ^ (n + 1) ≡ (x / 2 ^ j / 2 ^ 1 % 2 ^ n) * 2 ^ 1 + x / 2 ^ j % 2 ^ 1 =
    mod-pow-add (x / 2 ^ j) n 1 in
    let before : number_from_digits 2 (map d (range_with_len a n)) ≡ x / 2 ^ (h - n) % 2 ^ n =
    number-of_neighbours d x a h n (omega arith) (λ i b. same i (omega arith)) in
    let more : number_from_digits 2 (map d (range_with_len a (n + 1)))
    ≡ number_from_digits 2 (map d (range_with_len a n)) * 2 + d (a + n) =
    ap (number_from_digits 2) (map-range_with_len_more d a n (a + n) refl)
    ∙ number_push 2 (map d (range_with_len a n)) (d (a + n)) in
    let here : d (a + n) ≡ x / 2 ^ j % 2 = same n (omega arith) ∙ ap (bit_at x) below in
    let next : suc n ≡ n + 1 = omega arith in
    let whole : number_from_digits 2 (map d (range_with_len a (n + 1))) ≡ x / 2 ^ j % 2 ^ (n + 1) =
    omega arith in
    ap (λ (k : ℕ). number_from_digits 2 (map d (range_with_len a k))) next ∙ whole
    ∙ ap (λ (k : ℕ). x / 2 ^ j % 2 ^ k) (sym next)

-- bits of one word, as places
pub record IsInOneWord (b : fields.Bits) : Type 0 where
  pub from_one : 1 ≤ b.first
  pub ordered : b.first ≤ b.last
  pub to_end : b.last ≤ 300
  pub same_word : (b.first - 1) / 30 ≡ (b.last - 1) / 30
  pub are_data : (b.last - 1) % 30 < 24

pub one_word : (b : fields.Bits) → is_in_one_word b ≡ true → IsInOneWord b
one_word b h =
    let p = and_parts (nat_le 1 b.first && nat_le b.first b.last && nat_le b.last 300
    && ((b.first - 1) / 30 == (b.last - 1) / 30)) (nat_lt ((b.last - 1) % 30) 24) h in
    let q = and_parts (nat_le 1 b.first && nat_le b.first b.last && nat_le b.last 300)
    ((b.first - 1) / 30 == (b.last - 1) / 30) p.0 in
    let r = and_parts (nat_le 1 b.first && nat_le b.first b.last) (nat_le b.last 300) q.0 in
    let s = and_parts (nat_le 1 b.first) (nat_le b.first b.last) r.0 in
    record {
      from_one = leb-true 1 b.first s.0;
      ordered = leb-true b.first b.last s.1;
      to_end = leb-true b.last 300 r.1;
      same_word = eqb-true ((b.first - 1) / 30) ((b.last - 1) / 30) q.1;
      are_data = ltb-true ((b.last - 1) % 30) 24 p.1;
    }

pub same_place : (f l i : ℕ) → 1 ≤ f → f ≤ l → (f - 1) / 30 ≡ (l - 1) / 30 → i < l + 1 - f
    → ((f + i - 1) / 30 ≡ (f - 1) / 30) × ((f + i - 1) % 30 ≡ (f - 1) % 30 + i)
same_place f l i p q r b = (omega arith, omega arith)

-- the number of a part, from the word that holds it
pub number_of_bits-is : (s : Subframe) (b : fields.Bits) → is_in_one_word b ≡ true
    → number_of_bits s b ≡ unwrap_or (word_of s ((b.first - 1) / 30 + 1)) 0
    / 2 ^ (23 - (b.last - 1) % 30) % 2 ^ size_of b
unfolding number_of_bits
number_of_bits-is s b h =
    let w = one_word b h in
    let from_one : 1 ≤ b.first = w.from_one in
    let ordered : b.first ≤ b.last = w.ordered in
    let same_word : (b.first - 1) / 30 ≡ (b.last - 1) / 30 = w.same_word in
    let are_data : (b.last - 1) % 30 < 24 = w.are_data in
    let x : ℕ = unwrap_or (word_of s ((b.first - 1) / 30 + 1)) 0 in
    let top : ℕ = 24 - (b.first - 1) % 30 in
    let within : size_of b ≤ top = omega arith in
    let behind : top - size_of b ≡ 23 - (b.last - 1) % 30 = omega arith in
    let same : (i : ℕ) → i < size_of b → bit_at_place s (b.first + i) ≡ bit_at x (top - 1 - i) =
    λ i below.
    let at = same_place b.first b.last i from_one ordered same_word below in
    let place : 23 - (b.first + i - 1) % 30 ≡ top - 1 - i = omega (arith, at.1) in
    ap (λ (k : ℕ). bit_at (unwrap_or (word_of s (k + 1)) 0) (23 - (b.first + i - 1) % 30)) at.0
    ∙ ap (bit_at x) place in
    number-of_neighbours (bit_at_place s) x b.first top (size_of b) within same
    ∙ ap (λ (k : ℕ). x / 2 ^ k % 2 ^ size_of b) behind

-- as the code reads it
pub part_is_read : (s : Subframe) (b : fields.Bits) (word len k : ℕ) → is_in_one_word b ≡ true
    → k ≡ (b.first - 1) / 30 + 1 → len ≡ size_of b → word ≡ unwrap_or (word_of s k) 0
    → bit_and (word / 2 ^ (23 - (b.last - 1) % 30)) (1 * 2 ^ len % 2 ^ 64 - 1) ≡ number_of_bits s b
part_is_read s b word len k h at long is =
    let w = one_word b h in
    let from_one : 1 ≤ b.first = w.from_one in
    let same_word : (b.first - 1) / 30 ≡ (b.last - 1) / 30 = w.same_word in
    let short : len < 64 = omega (arith, w.ordered) in
    let y : ℕ = word / 2 ^ (23 - (b.last - 1) % 30) in
    ap (λ (m : ℕ). bit_and y (m - 1)) (one_shl len 64 short) ∙ and_mask y len
    ∙ (rw (is, at, long) (sym (number_of_bits-is s b h)))
