-- The six sums over a range of a run, word after word and part after part.
use Rattle.std.proofs.Common.{◌≡◌, ℕ, ◌+◌, ◌-◌, ◌*◌, ◌/◌, ◌<◌, ◌≤◌, ◌∙◌, sym, arith}
use Rattle.std.specs.Prelude.{min, max}
use Rattle.std.proofs.Math.Path.{ap₂}
use Rattle.definitions.specs.Samples.{Sample}
use Rattle.definitions.specs.Correlation.{Replica, sum_of_counts, no_counts}
use Rattle.definitions.specs.Correlation.{Counts as DefinedCounts}
use Rattle.definitions.proofs.CorrelationLemmas.{six_sums-split}
use Rattle.lane_correlator.specs.RangeSums.{HasSumsOf, cut}
use Rattle.lane_correlator.proofs.SumLemmas.{six_sums-none, none_within, added_within}

-- no sample
pub none_of : (x : ℕ → Sample) (r : Replica) (from : ℕ) (c : DefinedCounts) → c ≡ no_counts
    → HasSumsOf x r from from c
none_of x r from c none = record {
  sums = none ∙ sym (six_sums-none x r from);
  small = rw none (none_within (9 * (from - from)));
}

-- two ranges in a row
pub joined_of : (x : ℕ → Sample) (r : Replica) (a b d : ℕ) (c e f : DefinedCounts) → a ≤ b → b ≤ d
    → HasSumsOf x r a b c → HasSumsOf x r b d e → f ≡ sum_of_counts c e → HasSumsOf x r a d f
joined_of x r a b d c e f low high first second is = record {
  sums = is ∙ ap₂ sum_of_counts first.sums second.sums ∙ sym (six_sums-split x r a b d low high);
  small = rw is (added_within (9 * (b - a)) (9 * (d - b)) (9 * (d - a)) c e first.small
      second.small (omega (arith, low, high)));
}

pub none_before : (x : ℕ → Sample) (r : Replica) (from to : ℕ) (c : DefinedCounts) → from ≤ to
    → c ≡ no_counts → HasSumsOf x r from (cut from to (from / 64)) c
none_before x r from to c ordered none =
    let first : cut from to (from / 64) ≡ from = omega (arith, ordered) in
    rw first (none_of x r from c none)

-- one word more
pub word_more : (x : ℕ → Sample) (r : Replica) (from to w first end : ℕ)
    (a word t : DefinedCounts) → from ≤ to → from / 64 ≤ w → 64 * w < to
    → first ≡ max from (64 * w) - 64 * w → end ≡ min to (64 * w + 64) - 64 * w
    → HasSumsOf x r from (cut from to w) a
    → HasSumsOf x r (64 * w + first) (64 * w + end) word → t ≡ sum_of_counts a word
    → HasSumsOf x r from (cut from to (w + 1)) t
word_more x r from to w first end a word t ordered begun inside first_is end_is before of is =
    let p : ℕ = cut from to w in
    let q : ℕ = cut from to (w + 1) in
    let low : from ≤ p = omega (arith, ordered) in
    let high : p ≤ q = omega arith in
    let a_is : 64 * w + first ≡ p = omega (arith, first_is, inside, ordered) in
    let b_is : 64 * w + end ≡ q = omega (arith, end_is, inside, ordered, begun) in
    joined_of x r from p q a word t low high before (rw (a_is, b_is) at of) is

-- all words of the range
pub all_words : (x : ℕ → Sample) (r : Replica) (from to w : ℕ) (c : DefinedCounts) → from ≤ to
    → to ≤ 64 * w → HasSumsOf x r from (cut from to w) c → HasSumsOf x r from to c
all_words x r from to w c ordered past before =
    let last : cut from to w ≡ to = omega (arith, past, ordered) in
    rw last at before

-- a loop over words that ends is past the last of them, and not further
pub all_reached : (from to w : ℕ) → from < to → (to + 63) / 64 ≤ w
    → (from / 64 ≤ (to + 63) / 64 → w ≤ (to + 63) / 64) → w ≡ (to + 63) / 64
all_reached from to w some past before = omega (arith, past, before (omega (arith, some)))
