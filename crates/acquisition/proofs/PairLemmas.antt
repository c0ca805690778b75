-- The sums of a cell from its pair.
use Rattle.std.proofs.Common.{◌≡◌, ℕ, ◌+◌, ◌*◌, ◌/◌, ◌%◌, ◌^◌, ◌<◌, ◌≤◌, ap, ◌∙◌}
use Rattle.std.proofs.Common.{arith}
use Rattle.std.specs.Prelude.{ℤ, pos, ◌+ℤ◌, ◌-ℤ◌, ◌*ℤ◌, unsigned_abs}
use Rattle.std.proofs.lemmas.Int.{ints}
use Rattle.acquisition.specs.Pairs.{half_pair}
use Rattle.acquisition.specs.declared.chip_ring.TheConstants.{RAISED}
use Rattle.acquisition.specs.declared.fold.TheConstants.{MOST_SMALL}

-- the sums of a cell, from its halves and what these leave
pub record IsPairOf (pair rest_i rest_q : ℕ) (first second : ℤ) : Type 0 where
  pub is_first : pos (2 * (pair % 2 ^ 16) + rest_i) -ℤ pos (2 ^ 16) ≡ first
  pub is_second : pos (2 * (pair / 2 ^ 16) + rest_q) -ℤ pos (2 ^ 16) ≡ second

parts : (x y : ℕ) → x < 2 ^ 16 → y < 2 ^ 16
    → ((x + 2 ^ 16 * y) % 2 ^ 16 ≡ x) × ((x + 2 ^ 16 * y) / 2 ^ 16 ≡ y)
parts x y small_x small_y = (omega (arith, small_x, small_y), omega (arith, small_x, small_y))

pair_left : (x y low high m first second : ℕ) → x < 2 ^ 16 → y < 2 ^ 16 → first ≡ x + low
    → second + RAISED * m ≡ y + high
    → half_pair ((first + 2 ^ 16 * second) % 2 ^ 32) ((low + 2 ^ 16 * high) % 2 ^ 32)
    ≡ x + 2 ^ 16 * y
pair_left x y low high m first second small_x small_y f s =
    omega (arith, small_x, small_y, f, s)

-- a sum raised by 2^16, and its half, which is that over all samples less that at chips of 1
record IsHalved (sum : ℤ) (low m raised x : ℕ) : Type 0 where
  below : x < 2 ^ 16
  half : raised / 2 + RAISED * m ≡ x + low
  value : pos (2 * x + raised % 2) -ℤ pos (2 ^ 16) ≡ sum

is_halved : (sum whole : ℤ) (low m raised : ℕ) → unsigned_abs sum ≤ MOST_SMALL
    → sum ≡ whole -ℤ pos 2 *ℤ (pos low -ℤ pos (RAISED * m)) → pos raised ≡ whole +ℤ pos (2 ^ 16)
    → IsHalved sum low m raised (unsigned_abs (sum +ℤ pos (2 ^ 16)) / 2)
is_halved sum whole low m raised small is at =
    let s : ℕ = unsigned_abs (sum +ℤ pos (2 ^ 16)) in
    let at_s : pos s ≡ sum +ℤ pos (2 ^ 16) = up sum small in
    let all : s + 2 * low ≡ raised + 2 * (RAISED * m) = omega (arith, ints, at_s, is, at) in
    let odd : s % 2 ≡ raised % 2 = omega (arith, all) in
    record {
      below = omega (arith, below sum small);
      half = omega (arith, all);
      value = back s (raised % 2) sum odd at_s;
    }
  where
    up : (z : ℤ) → unsigned_abs z ≤ MOST_SMALL
        → pos (unsigned_abs (z +ℤ pos (2 ^ 16))) ≡ z +ℤ pos (2 ^ 16)
    up z small = omega (arith, ints, small)

    below : (z : ℤ) → unsigned_abs z ≤ MOST_SMALL → unsigned_abs (z +ℤ pos (2 ^ 16)) < 2 ^ 17
    below z small = omega (arith, ints, small)

    back : (s rest : ℕ) (z : ℤ) → s % 2 ≡ rest → pos s ≡ z +ℤ pos (2 ^ 16)
        → pos (2 * (s / 2) + rest) -ℤ pos (2 ^ 16) ≡ z
    back s rest z odd e = omega (arith, ints, odd, e)

pub pair_is : (first second in_phase quadrature : ℤ)
    (m low high raised_i raised_q whole lane : ℕ)
    → unsigned_abs first ≤ MOST_SMALL → unsigned_abs second ≤ MOST_SMALL
    → first ≡ in_phase -ℤ pos 2 *ℤ (pos low -ℤ pos (RAISED * m))
    → second ≡ quadrature -ℤ pos 2 *ℤ (pos high -ℤ pos (RAISED * m))
    → pos raised_i ≡ in_phase +ℤ pos (2 ^ 16) → pos raised_q ≡ quadrature +ℤ pos (2 ^ 16)
    → whole ≡ (raised_i / 2 + RAISED * m + 2 ^ 16 * (raised_q / 2)) % 2 ^ 32
    → lane ≡ (low + 2 ^ 16 * high) % 2 ^ 32
    → IsPairOf (half_pair whole lane) (raised_i % 2) (raised_q % 2) first second
pair_is first second in_phase quadrature m low high raised_i raised_q whole lane small_f small_s
    is_first is_second at_i at_q of_whole of_lane =
    let x : ℕ = unsigned_abs (first +ℤ pos (2 ^ 16)) / 2 in
    let y : ℕ = unsigned_abs (second +ℤ pos (2 ^ 16)) / 2 in
    let one : IsHalved first low m raised_i x =
    is_halved first in_phase low m raised_i small_f is_first at_i in
    let two : IsHalved second high m raised_q y =
    is_halved second quadrature high m raised_q small_s is_second at_q in
    let left : half_pair whole lane ≡ x + 2 ^ 16 * y = rw (of_whole, of_lane)
    (pair_left x y low high m (raised_i / 2 + RAISED * m) (raised_q / 2) one.below two.below
    one.half two.half) in
    let both = parts x y one.below two.below in
    record {
      is_first = ap (λ (u : ℕ). pos (2 * (u % 2 ^ 16) + raised_i % 2) -ℤ pos (2 ^ 16)) left
          ∙ ap (λ (u : ℕ). pos (2 * u + raised_i % 2) -ℤ pos (2 ^ 16)) both.0 ∙ one.value;
      is_second = ap (λ (u : ℕ). pos (2 * (u / 2 ^ 16) + raised_q % 2) -ℤ pos (2 ^ 16)) left
          ∙ ap (λ (u : ℕ). pos (2 * u + raised_q % 2) -ℤ pos (2 ^ 16)) both.1 ∙ two.value;
    }
