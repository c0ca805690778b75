-- The products of a word in the lanes of two sums.
use Rattle.std.proofs.Common.{◌≡◌, ℕ, ◌+◌, ◌-◌, ◌*◌, ◌<◌, ◌≤◌, ◌∙◌, arith, List, length}
use Rattle.std.proofs.Common.{get_or, ◌%◌}
use Rattle.std.specs.Prelude.{ℤ, ◌+ℤ◌, ◌*ℤ◌, unsigned_abs, ◌⊎◌, bit_and}
use Rattle.std.specs.Simd.Lanes.{zip2}
use Rattle.std.proofs.lemmas.Int.{ints}
use Rattle.std.proofs.lemmas.Simd.{get_or-zip2}
use Rattle.definitions.specs.Sums.{total}
use Rattle.definitions.proofs.SumsLemmas.{total-same, total-split}
use Rattle.lane_correlator.specs.Bytes.{signed_byte, mask_sign, lane_of, sum_of_lanes, signed_total}
use Rattle.lane_correlator.specs.Bytes.{AreAtMost, AreMasks}
use Rattle.lane_correlator.proofs.ByteLemmas.{total-sum, total-reversed, signed_size, lane_grown}

-- products by lanes
product_of : List ℕ → List ℕ → ℕ → ℤ
product_of lanes masks k = signed_byte (get_or lanes k 0) *ℤ mask_sign (get_or masks k 0)

by_lanes : (lanes masks : List ℕ) → signed_total lanes masks ≡ total (product_of lanes masks) 64
unfolding signed_total product_of
by_lanes lanes masks = total-reversed (product_of lanes masks) 64

-- a word comes into the lanes of all products, and what masks leave of it into those of turned ones
module _ (lanes masks a t a1 t1 : List ℕ) (n m : ℕ) (hl : length lanes ≡ 64)
    (hm : length masks ≡ 64) (turned : (k : ℕ) → k < 32 → get_or t k 0 < 256)
    (room : n + 2 * m ≤ 127)
    (low : (k : ℕ) → k < 32 → unsigned_abs (lane_of a t k) ≤ n) (small : AreAtMost m lanes)
    (are : AreMasks masks)
    (all_more : (k : ℕ) → k < 32 → get_or a1 k 0
    ≡ (get_or a k 0 + get_or lanes k 0 + get_or lanes (32 + k) 0) % 256)
    (turned_more : (k : ℕ) → k < 32 → get_or t1 k 0
    ≡ (get_or t k 0 + get_or (zip2 bit_and lanes masks) k 0
    + get_or (zip2 bit_and lanes masks) (32 + k) 0) % 256) where
  masked : (k : ℕ) → k < 64
      → get_or (zip2 bit_and lanes masks) k 0 ≡ bit_and (get_or lanes k 0) (get_or masks k 0)
  masked k h = get_or-zip2 bit_and lanes masks k 0 0 0 (omega (arith, hl)) (omega (arith, hm))

  size : (k : ℕ) → k < 64 → unsigned_abs (signed_byte (get_or lanes k 0)) ≤ m
  size k h =
      let place : 63 - (63 - k) ≡ k = omega arith in
      rw place at (small (63 - k) (omega arith))

  mask : (k : ℕ) → k < 64 → (get_or masks k 0 ≡ 0) ⊎ (get_or masks k 0 ≡ 255)
  mask k h = let place : 63 - (63 - k) ≡ k = omega arith in rw place at (are (63 - k) (omega arith))

  grown : (k : ℕ) → k < 32 → lane_of a1 t1 k
      ≡ (lane_of a t k +ℤ product_of lanes masks k) +ℤ product_of lanes masks (32 + k)
  unfolding product_of
  grown k h =
      let high : 32 + k < 64 = omega arith in
      rw (all_more k h, turned_more k h, masked k (omega arith), masked (32 + k) high)
      (lane_grown (get_or a k 0) (get_or t k 0) (get_or lanes k 0) (get_or lanes (32 + k) 0)
      n m (turned k h) room (low k h) (size k (omega arith)) (size (32 + k) high) (get_or masks k 0)
      (get_or masks (32 + k) 0) (mask k (omega arith)) (mask (32 + k) high))

  pub word_added : sum_of_lanes a1 t1 ≡ sum_of_lanes a t +ℤ signed_total lanes masks
  unfolding sum_of_lanes
  word_added =
      let f : ℕ → ℤ = product_of lanes masks in
      total-same (lane_of a1 t1) (λ k. (lane_of a t k +ℤ f k) +ℤ f (32 + k)) 32 grown
      ∙ total-sum (λ k. lane_of a t k +ℤ f k) (λ k. f (32 + k)) 32
      ∙ rw (total-sum (lane_of a t) f 32, by_lanes lanes masks, total-split f 32 32)
      (joined (total (lane_of a t) 32) (total f 32) (total (λ k. f (32 + k)) 32))
    where
      joined : (x y z : ℤ) → (x +ℤ y) +ℤ z ≡ x +ℤ (y +ℤ z)
      joined x y z = omega (arith, ints)

  -- a lane grows by two products at most
  pub word_low : (k : ℕ) → k < 32 → unsigned_abs (lane_of a1 t1 k) ≤ n + 2 * m
  unfolding product_of
  word_low k h =
      let high : 32 + k < 64 = omega arith in
      longer (lane_of a1 t1 k) (lane_of a t k) (product_of lanes masks k)
      (product_of lanes masks (32 + k)) (grown k h) (low k h)
      (signed_size (signed_byte (get_or lanes k 0)) (get_or masks k 0) m (mask k (omega arith))
      (size k (omega arith)))
      (signed_size (signed_byte (get_or lanes (32 + k) 0)) (get_or masks (32 + k) 0) m
      (mask (32 + k) high) (size (32 + k) high))
    where
      longer : (x b c d : ℤ) → x ≡ (b +ℤ c) +ℤ d → unsigned_abs b ≤ n → unsigned_abs c ≤ m
          → unsigned_abs d ≤ m → unsigned_abs x ≤ n + 2 * m
      longer x b c d is hb hc hd = omega (arith, ints, is, hb, hc, hd)
