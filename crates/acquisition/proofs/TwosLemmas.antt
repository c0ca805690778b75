-- Pairs of sums that are added up in lanes, from rings for one chip and for two.
use Rattle.std.proofs.Common.{◌≡◌, ℕ, suc, ◌+◌, ◌*◌, ◌%◌, ◌^◌, ◌<◌, ◌≤◌, refl, ap, ◌∙◌, sym}
use Rattle.std.proofs.Common.{arith}
use Rattle.std.specs.Prelude.{ℤ, pos, ◌+ℤ◌, List, length, slice_index}
use Rattle.std.proofs.lemmas.Int.{ints}
use Rattle.std.proofs.lemmas.Simd.{get_or-zip2}
use Rattle.definitions.specs.Sums.{total}
use Rattle.acquisition.specs.Rings.{place_of, ArePaired, AreEntries, IsPairAtOnes, IsRing}
use Rattle.acquisition.specs.Ones.{next_place}
use Rattle.acquisition.specs.Rings.{half_chip_in_ring, sum_at, with_next}
use Rattle.acquisition.specs.Twos.{IsClosed, AreTwos, HasPairs, IsPair, ArePairs}
use Rattle.acquisition.specs.declared.ones.Ones.{Ones}
use Rattle.acquisition.specs.declared.chip_ring.TheConstants.{RING}
use Rattle.acquisition.proofs.LaneLemmas.{both_lanes, lanes_long}
use Rattle.acquisition.specs.declared.half_chip_table.TheConstants.{HALF_CHIPS}

pair_added : (a b c d : ℕ) → ((a + 2 ^ 16 * b) % 2 ^ 32 + (c + 2 ^ 16 * d) % 2 ^ 32) % 2 ^ 32
    ≡ (a + c + 2 ^ 16 * (b + d)) % 2 ^ 32
pair_added a b c d = omega arith

-- a pair with another one added to it
pair_more : (lane more a b : ℕ) (x y : ℤ) → IsPair lane x y → more ≡ (a + 2 ^ 16 * b) % 2 ^ 32
    → IsPair ((lane + more) % 2 ^ 32) (x +ℤ pos a) (y +ℤ pos b)
pair_more lane more a b x y is pair = record {
  of_first = is.of_first + a;
  of_second = is.of_second + b;
  is_first = rw (← is.is_first) refl;
  is_second = rw (← is.is_second) refl;
  is_pair = rw (is.is_pair, pair) (pair_added is.of_first is.of_second a b);
}

-- sums at one more chip
sum_at-none : (entry : ℕ → ℕ) (half : ℕ) (chips : List ℕ) (l : ℕ) (z : ℤ)
    → z +ℤ sum_at entry half chips 0 l ≡ z
unfolding total
sum_at-none entry half chips l z = omega (arith, ints)

sum_at-more : (entry : ℕ → ℕ) (half : ℕ) (chips : List ℕ) (n l : ℕ) (z : ℤ)
    → z +ℤ sum_at entry half chips (n + 1) l ≡ (z +ℤ sum_at entry half chips n l)
    +ℤ pos (entry (place_of half (slice_index chips n) + l))
unfolding total
sum_at-more entry half chips n l z =
    let e : n + 1 ≡ suc n = omega arith in
    rw e (moved z (sum_at entry half chips n l)
    (pos (entry (place_of half (slice_index chips n) + l))))
  where
    moved : (a b c : ℤ) → a +ℤ (b +ℤ c) ≡ (a +ℤ b) +ℤ c
    moved a b c = omega (arith, ints)

pub pairs_first : (chips : List ℕ) (f g : ℕ → ℕ) (x y : ℕ → ℤ) (half from : ℕ) (lanes : List ℕ)
    → ArePairs x y from lanes
    → ArePairs (λ l. x l +ℤ sum_at f half chips 0 l) (λ l. y l +ℤ sum_at g half chips 0 l) from
    lanes
pairs_first chips f g x y half from lanes are = record {
  long = are.long;
  are = λ l h. rw (
    sum_at-none f half chips (from + l) (x (from + l)),
    sum_at-none g half chips (from + l) (y (from + l)),
  ) (are.are l h);
}

pub pairs_more : (ring chips : List ℕ) (f g : ℕ → ℕ) (x y : ℕ → ℤ) (half from n at : ℕ)
    (lanes more : List ℕ) → HasPairs f g ring → from ≤ 48
    → at ≡ place_of half (slice_index chips n) + from → AreEntries ring at more
    → ArePairs (λ l. x l +ℤ sum_at f half chips n l) (λ l. y l +ℤ sum_at g half chips n l) from
    lanes
    → ArePairs (λ l. x l +ℤ sum_at f half chips (n + 1) l)
    (λ l. y l +ℤ sum_at g half chips (n + 1) l) from (both_lanes lanes more)
pairs_more ring chips f g x y half from n at lanes more has few here entries are = record {
  long = lanes_long lanes more are.long entries.long;
  are = λ l h.
      let place : ℕ = place_of half (slice_index chips n) + (from + l) in
      let there : at + l ≡ place = omega (arith, here) in
      rw (
        get_or-zip2 (λ (a b : ℕ). (a + b) % 2 ^ 32) lanes more l 0 0 0
            (omega (arith, are.long, h)) (omega (arith, entries.long, h)),
        sum_at-more f half chips n (from + l) (x (from + l)),
        sum_at-more g half chips n (from + l) (y (from + l)),
      ) (pair_more (slice_index lanes l) (slice_index more l) (f place) (g place)
      (x (from + l) +ℤ sum_at f half chips n (from + l))
      (y (from + l) +ℤ sum_at g half chips n (from + l)) (are.are l h)
      (entries.are l h ∙ ap (slice_index ring) there ∙ has place (omega (arith, few, h))));
}

-- rings that begin anew after the last half chip
pub closed_of_ring : (table : List ℤ) (ring : List ℕ) → IsRing table ring → IsClosed ring
closed_of_ring table ring is i h =
    let same : half_chip_in_ring i ≡ half_chip_in_ring (i % HALF_CHIPS) = omega (arith, h) in
    let e : pos (slice_index ring i) ≡ pos (slice_index ring (i % HALF_CHIPS)) =
    is i h ∙ rw same refl ∙ sym (is (i % HALF_CHIPS) (omega (arith, h))) in
    omega (arith, ints, e)

pub closed_of_pairs : (first second pairs : List ℕ) → ArePaired first second pairs
    → IsClosed first → IsClosed second → IsClosed pairs
closed_of_pairs first second pairs are closed closed_q i h =
    are i h ∙ rw (closed i h, closed_q i h) refl ∙ sym (are (i % HALF_CHIPS) (omega (arith, h)))

-- the pairs of a ring for two chips
pub pairs_of_twos : (f g : ℕ → ℕ) (ring twos : List ℕ) → HasPairs f g ring → AreTwos ring twos
    → HasPairs (with_next f) (with_next g) twos
pairs_of_twos f g ring twos has by i h =
    by i h ∙ rw (has i h, has (next_place i) (omega arith))
    (pair_added (f i) (g i) (f (next_place i)) (g (next_place i)))

-- the sums at the chips of 1, from the lanes that have them
pub pair_at_ones : (ones : Ones) (f g : ℕ → ℕ) (half l lane : ℕ)
    → IsPair lane ((pos 0 +ℤ sum_at f half ones.alone.items (length ones.alone.items) l)
    +ℤ sum_at (with_next f) half ones.twos.items (length ones.twos.items) l)
    ((pos 0 +ℤ sum_at g half ones.alone.items (length ones.alone.items) l)
    +ℤ sum_at (with_next g) half ones.twos.items (length ones.twos.items) l)
    → IsPairAtOnes ones f g half l lane
pair_at_ones ones f g half l lane is = record {
  of_first = is.of_first;
  of_second = is.of_second;
  is_first = is.is_first ∙ nothing (sum_at f half ones.alone.items (length ones.alone.items) l)
      (sum_at (with_next f) half ones.twos.items (length ones.twos.items) l);
  is_second = is.is_second ∙ nothing (sum_at g half ones.alone.items (length ones.alone.items) l)
      (sum_at (with_next g) half ones.twos.items (length ones.twos.items) l);
  is_pair = is.is_pair;
}
  where
    nothing : (a b : ℤ) → (pos 0 +ℤ a) +ℤ b ≡ a +ℤ b
    nothing a b = omega (arith, ints)

-- the twos of a ring of zeros
pub twos_of_zeros : (ring twos : List ℕ) → ((i : ℕ) → i < RING → slice_index ring i ≡ 0)
    → ((i : ℕ) → i < RING → slice_index twos i ≡ 0) → AreTwos ring twos
twos_of_zeros ring twos zeros are i h =
    are i h ∙ rw (zeros i h, zeros (next_place i) (omega arith)) refl
