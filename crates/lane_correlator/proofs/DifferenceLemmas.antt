-- Sums of numbers as differences of running sums.
use Rattle.std.proofs.Common.{◌≡◌, ℕ, zero, suc, ◌+◌, ◌-◌, ◌*◌, ◌%◌, ◌<◌, ◌≤◌}
use Rattle.std.proofs.Common.{◌∙◌, arith, List, get_or}
use Rattle.std.specs.Prelude.{ℤ, pos, ◌+ℤ◌, unsigned_abs}
use Rattle.std.proofs.Common.{to_z, of_z, w32}
use Rattle.std.proofs.lemmas.Int.{ints, to_z-of_z, fits_signed_from_abs}
use Rattle.definitions.specs.Sums.{total, sum_between}
use Rattle.definitions.proofs.SumsLemmas.{total-bound}
use Rattle.bit_planes.specs.ByteLanes.{place_in}
use Rattle.lane_correlator.specs.Bytes.{signed_byte, AreAtMost}
use Rattle.lane_correlator.specs.RunningSums.{byte_sum, sum_to, part_in, AreRunningSums}
use Rattle.lane_correlator.specs.RunningSums.{ArePartsAtMost}

-- the part of a product, from the running sums of the lanes of all
pub part_is : (lanes running sums : List ℕ) → AreRunningSums lanes running
    → ((k : ℕ) → k < 64 → get_or sums k 0 ≡ get_or running k 0) → get_or sums 64 0 ≡ 0
    → (j : ℕ) → j < 64 → part_in sums j ≡ signed_byte (place_in lanes j)
unfolding byte_sum
part_is lanes running sums are same none j h =
    let up : j + 1 ≡ suc j = omega arith in
    let next : sum_to sums (j + 1) ≡ (byte_sum lanes 0 j + place_in lanes j) % 256 =
    let at : 0 + j ≡ j = omega arith in
    rw up (rw at at (upto (suc j) (omega (arith, h)))) in
    one_more (place_in lanes j) (byte_sum lanes 0 j) (sum_to sums (j + 1)) (sum_to sums j)
    next (upto j (omega (arith, h)))
  where
    upto : (n : ℕ) → n ≤ 64 → sum_to sums n ≡ byte_sum lanes 0 n % 256
    upto zero few = none
    upto (suc n) few =
        let at : 64 - suc n ≡ 63 - n = omega arith in
        let up : n + 1 ≡ suc n = omega arith in
        rw at (same (63 - n) (omega arith)) ∙ rw up at (are n (omega (arith, few)))

    one_more : (lane before up to : ℕ) → up ≡ (before + lane) % 256 → to ≡ before % 256
        → signed_byte (up + (256 - to)) ≡ signed_byte lane
    one_more lane before up to is_up is_to = omega (arith, ints, is_up, is_to)

-- no part is greater in size than the lanes are
pub parts_at_most : (most : ℕ) (lanes running sums : List ℕ) → AreAtMost most lanes
    → AreRunningSums lanes running → ((k : ℕ) → k < 64 → get_or sums k 0 ≡ get_or running k 0)
    → get_or sums 64 0 ≡ 0 → ArePartsAtMost most sums
parts_at_most most lanes running sums small are same none j h =
    rw (part_is lanes running sums are same none j h) (small j h)

-- a sum of at most 14 parts is what the running sum after them is more than that before them
pub parts_total : (sums : List ℕ) (first n : ℕ) → ((k : ℕ) → get_or sums k 0 < 256) → n ≤ 14
    → ((j : ℕ) → j < n → unsigned_abs (part_in sums (first + j)) ≤ 9)
    → signed_byte (sum_to sums (first + n) + (256 - sum_to sums first))
    ≡ total (λ j. part_in sums (first + j)) n
unfolding total
parts_total sums first zero below few small =
    let at : first + zero ≡ first = omega arith in
    rw at (nothing (sum_to sums first) (below (64 - first)))
  where
    nothing : (a : ℕ) → a < 256 → signed_byte (a + (256 - a)) ≡ pos 0
    nothing a h = omega (arith, ints, h)
parts_total sums first (suc n) below few small =
    let at : first + suc n ≡ first + n + 1 = omega arith in
    let before : signed_byte (sum_to sums (first + n) + (256 - sum_to sums first))
    ≡ total (λ j. part_in sums (first + j)) n = parts_total sums first n below (omega (arith, few))
    (λ j h. small j (omega arith)) in
    let size : unsigned_abs (total (λ j. part_in sums (first + j)) n) ≤ n * 9 =
    total-bound (λ j. part_in sums (first + j)) 9 n (λ j h. small j (omega arith)) in
    rw at (more (sum_to sums (first + n + 1)) (sum_to sums (first + n)) (sum_to sums first)
    (total (λ j. part_in sums (first + j)) n) (below (64 - (first + n + 1)))
    (below (64 - (first + n))) (below (64 - first)) before (omega (arith, size, few))
    (small n (omega arith)))
  where
    more : (up here from : ℕ) (sum : ℤ) → up < 256 → here < 256 → from < 256
        → signed_byte (here + (256 - from)) ≡ sum → unsigned_abs sum ≤ 117
        → unsigned_abs (signed_byte (up + (256 - here))) ≤ 9
        → signed_byte (up + (256 - from)) ≡ sum +ℤ signed_byte (up + (256 - here))
    more up here from sum hu hh hf is size small = omega (arith, ints, is, size, small)

-- it is a number of 32 bits
pub sum_in_32 : (sums : List ℕ) (first end : ℕ) → ((k : ℕ) → get_or sums k 0 < 256) → first ≤ end
    → end - first ≤ 14
    → ((j : ℕ) → first ≤ j → j < end → unsigned_abs (part_in sums j) ≤ 9)
    → to_z w32 (of_z w32 (signed_byte (sum_to sums end + (256 - sum_to sums first))))
    ≡ sum_between (part_in sums) first end
sum_in_32 sums first end below ordered few small =
    let whole : first + (end - first) ≡ end = omega (arith, ordered) in
    to_z-of_z w32 (signed_byte (sum_to sums end + (256 - sum_to sums first)))
    (fits_signed_from_abs w32 (signed_byte (sum_to sums end + (256 - sum_to sums first)))
    (omega (arith, ints)))
    ∙ rw whole at (parts_total sums first (end - first) below few (λ j h.
    small (first + j) (omega arith) (omega (arith, h))))
