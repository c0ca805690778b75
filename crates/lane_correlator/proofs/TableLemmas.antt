-- Tables of products of a carrier with the sizes of samples.
use Rattle.std.proofs.Common.{◌≡◌, ℕ, ◌+◌, ◌*◌, ◌/◌, ◌%◌, ◌<◌, ◌≤◌, refl, sym, ap, ◌∙◌, arith}
use Rattle.std.proofs.Common.{List, get_or, map, Bool, true, false, replicate}
use Rattle.std.specs.List.{range_with_len}
use Rattle.std.specs.Prelude.{ℤ, pos, ◌*ℤ◌, unsigned_abs, bit_xor, leb}
use Rattle.std.proofs.lemmas.Bool.{leb-true}
use Rattle.std.proofs.lemmas.List.{get_or-replicate}
use Rattle.std.proofs.lemmas.List.FromFn.{get_or-map-range_with_len}
use Rattle.sample_planes.specs.Signs.{part_of}
use Rattle.sample_planes.specs.Codes.{IsCode}
use Rattle.lane_correlator.specs.Bytes.{signed_byte, cosine_in, sine_in, cosine_times, sine_times}
use Rattle.lane_correlator.specs.Bytes.{minus_sine_times, IsTableOf}
use Rattle.lane_correlator.specs.declared.wiped.TheConstants.{COSINES, SINES, MINUS_SINES}

-- two functions that have the same first values
each_below : (f g : ℕ → ℤ) (n i : ℕ) → i < n
    → map f (range_with_len 0 n) ≡ map g (range_with_len 0 n) → f i ≡ g i
each_below f g n i h same =
    sym (get_or-map-range_with_len f 0 n i i (pos 0) h (omega arith))
    ∙ ap (λ (l : List ℤ). get_or l i (pos 0)) same
    ∙ get_or-map-range_with_len g 0 n i i (pos 0) h (omega arith)

-- a bound that the first values keep
small_below : (f : ℕ → ℤ) (b n i : ℕ) → i < n
    → map (λ j. leb (unsigned_abs (f j)) b) (range_with_len 0 n) ≡ replicate n true
    → unsigned_abs (f i) ≤ b
small_below f b n i h all =
    let is : leb (unsigned_abs (f i)) b ≡ true =
    sym (get_or-map-range_with_len (λ j. leb (unsigned_abs (f j)) b) 0 n i i false h (omega arith))
    ∙ ap (λ (l : List Bool). get_or l i false) all ∙ get_or-replicate n i true false h in
    leb-true (unsigned_abs (f i)) b is

-- ---- the tables

pub cosine_table : IsTableOf cosine_times COSINES
cosine_table = record {
  entries = λ p h. each_below (λ n. signed_byte (get_or COSINES n 0)) (λ n. cosine_times (n % 16))
      64 p h refl;
  small = λ n h. small_below cosine_times 6 16 n h refl;
}

pub sine_table : IsTableOf sine_times SINES
sine_table = record {
  entries = λ p h. each_below (λ n. signed_byte (get_or SINES n 0)) (λ n. sine_times (n % 16)) 64 p
      h refl;
  small = λ n h. small_below sine_times 6 16 n h refl;
}

pub minus_sine_table : IsTableOf minus_sine_times MINUS_SINES
minus_sine_table = record {
  entries = λ p h. each_below (λ n. signed_byte (get_or MINUS_SINES n 0))
      (λ n. minus_sine_times (n % 16)) 64 p h refl;
  small = λ n h. small_below minus_sine_times 6 16 n h refl;
}

-- ---- a sample below 0 turns the carrier by half a cycle

abbrev turned : ℕ → ℕ
turned n = bit_xor (n / 4) (4 * (n % 4))

abbrev part : ℕ → ℤ
part n = part_of (4 * (n % 4) / 4 % 2) (4 * (n % 4) / 8)

turned_cosine : (n : ℕ) → n < 32 → cosine_times (turned n) ≡ part n *ℤ cosine_in (n / 4)
turned_cosine n h = each_below (λ n. cosine_times (turned n)) (λ n. part n *ℤ cosine_in (n / 4)) 32
    n h refl

turned_sine : (n : ℕ) → n < 32 → sine_times (turned n) ≡ part n *ℤ sine_in (n / 4)
turned_sine n h = each_below (λ n. sine_times (turned n)) (λ n. part n *ℤ sine_in (n / 4)) 32 n h
    refl

pub with_code : (x : ℤ) (e code : ℕ) → IsCode x code
    → cosine_times (bit_xor (e % 8) code) ≡ x *ℤ cosine_in e
with_code x e code is =
    let n : ℕ = 4 * (e % 8) + code / 4 in
    let eighth : n / 4 ≡ e % 8 = omega (arith, is.few) in
    let fourth : 4 * (n % 4) ≡ code = omega (arith, is.fourth, is.few) in
    let same : e % 8 % 8 ≡ e % 8 = omega arith in
    rw (eighth, fourth, same, sym is.value) at (turned_cosine n (omega (arith, is.few)))

pub sine_with_code : (x : ℤ) (e code : ℕ) → IsCode x code
    → sine_times (bit_xor (e % 8) code) ≡ x *ℤ sine_in e
sine_with_code x e code is =
    let n : ℕ = 4 * (e % 8) + code / 4 in
    let eighth : n / 4 ≡ e % 8 = omega (arith, is.few) in
    let fourth : 4 * (n % 4) ≡ code = omega (arith, is.fourth, is.few) in
    let same : e % 8 % 8 ≡ e % 8 = omega arith in
    rw (eighth, fourth, same, sym is.value) at (turned_sine n (omega (arith, is.few)))

-- ---- sizes

-- cosine and sine together
pub small_wave : (e : ℕ) → unsigned_abs (cosine_in e) + unsigned_abs (sine_in e) ≤ 3
small_wave e =
    let same : e % 8 % 8 ≡ e % 8 = omega arith in
    rw same at (small_below (λ n. pos (unsigned_abs (cosine_in n) + unsigned_abs (sine_in n))) 3 8
    (e % 8) (omega arith) refl)

pub small_part : (x : ℤ) (code : ℕ) → IsCode x code → unsigned_abs x ≤ 3
small_part x code is =
    let n : ℕ = code / 4 in
    let sign : n % 2 ≡ code / 4 % 2 = refl in
    let size : n / 2 ≡ code / 8 = omega arith in
    rw (is.value, sym size)
    (small_below (λ n. part_of (n % 2) (n / 2)) 3 4 n (omega (arith, is.few)) refl)
