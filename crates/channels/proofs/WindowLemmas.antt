-- The samples that a window has unpacked, by their numbers.
use Rattle.std.proofs.Common.{◌≡◌, ℕ, ◌+◌, ◌-◌, ◌*◌, ◌<◌, ◌≤◌, List, length, take, drop, refl}
use Rattle.std.proofs.Common.{sym, ap, ◌∙◌, arith, ◌++◌}
use Rattle.std.specs.Prelude.{map, pos}
use Rattle.std.specs.List.{range_with_len}
use Rattle.std.proofs.lemmas.List.{length-drop, get_or-take, get_or-drop, take-append-le}
use Rattle.std.proofs.lemmas.List.{drop-append-le}
use Rattle.definitions.specs.Samples.{Sample, sample_at, real}
use Rattle.definitions.specs.Oscillators.{carrier_phase_after}
use Rattle.definitions.specs.Correlation.{Counts, replica_of, six_sums, sum_of_counts}
use Rattle.definitions.proofs.CorrelationLemmas.{six_sums-same}
use Rattle.lane_correlator.specs.Counting.{counts_in}
use Rattle.lane_correlator.specs.ReplicaWords.{phases_of}
use Rattle.sample_planes.specs.Sources.{AreSamplesOf}
use Rattle.sample_planes.proofs.PlaneLemmas.{runs_agree}
use Rattle.sample_planes.proofs.RunLemmas.{part-numbered}
use Rattle.channels.specs.declared.follower.Follower.{Follower}
use Rattle.channels.specs.declared.window.Window.{Window}
use Rattle.channels.specs.Windows.{IsOver, planes_of}
use Rattle.channels.proofs.FollowingLemmas.{Moves}

-- what a history holds from one number on is that part of the samples
pub held-part : (xs : List Sample) (held : ℕ → Sample) (from to first : ℕ)
    → AreSamplesOf xs from to held → from ≤ first → first ≤ to → to ≡ length xs
    → map held (range_with_len first (to - first)) ≡ take (to - first) (drop first xs)
held-part xs held from to first samples early begun all =
    let at : (i : ℕ) → 0 + first + i - 0 ≡ first + i = λ i. omega arith in
    runs_agree held (λ k. sample_at xs (k - 0)) first (0 + first) (to - first)
    (λ i h. rw (at i) (samples (first + i) (omega (arith, early)) (omega (arith, h))))
    ∙ sym (part-numbered xs 0 first (to - first) (omega (arith, begun, all)))

-- what is unpacked is the same part of more samples
pub unpacked-on : (xs ys : List Sample) (first to : ℕ) → first ≤ to → to ≤ length xs
    → take (to - first) (drop first xs) ≡ take (to - first) (drop first (xs ++ ys))
unpacked-on xs ys first to begun within =
    sym (ap (λ (zs : List Sample). take (to - first) zs)
    (drop-append-le first xs ys (omega (arith, begun, within)))
    ∙ take-append-le (to - first) (drop first xs) ys
    (omega (arith, length-drop first xs, begun, within)))

-- how many of the samples come after the first ones
pub many : (xs : List Sample) (at to : ℕ) → length xs ≡ to → to - at ≡ length (drop at xs)
many xs at to all = ap (λ k. k - at) (sym all) ∙ sym (length-drop at xs)

-- a sample that is unpacked, by its number
pub unpacked-at : (xs : List Sample) (w : Window) (at from j : ℕ) → IsOver xs w
    → w.first + from ≡ at → length xs ≤ w.unpacked → j < length xs - at
    → sample_at (planes_of w) (from + j) ≡ sample_at (drop at xs) j
unpacked-at xs w at from j over place within below =
    let inside : w.first < w.unpacked = omega (arith, place, within, below) in
    let number : w.first + (from + j) ≡ at + j = omega (arith, place) in
    ap (λ (ps : List Sample). sample_at ps (from + j)) (over.stands.planes inside)
    ∙ get_or-take (w.unpacked - w.first) (drop w.first over.all) (from + j) (real (pos 0))
    (omega (arith, place, within, below))
    ∙ get_or-drop w.first over.all (from + j) (real (pos 0))
    ∙ ap (λ (k : ℕ). sample_at over.all k) number
    ∙ sym (get_or-drop at xs j (real (pos 0))
    ∙ ap (λ (zs : List Sample). sample_at zs (at + j)) (sym over.begins)
    ∙ get_or-take (length xs) over.all (at + j) (real (pos 0)) (omega (arith, below)))

-- what the samples of a window do to a follower that takes them from its own number on, from what
-- its parts promise
pub moves_by : (f : Follower) (xs : List Sample) (w : Window) (planes : List Sample)
    (to from turn : ℕ) (six total : Counts) → IsOver xs w → length xs ≡ to → to ≤ w.unpacked
    → w.first + from ≡ f.at → planes ≡ planes_of w
    → turn ≡ carrier_phase_after f.carrier.phase f.carrier.step (to - f.at)
    → six ≡ six_sums (λ j. sample_at planes (from + j))
    (replica_of f.prn (phases_of f.carrier f.code)) 0 (to - f.at)
    → total ≡ sum_of_counts (counts_in f.sums) six
    → Moves (drop f.at xs) f (f.code.phase + length (drop f.at xs) * f.code.step) turn total
moves_by f xs w planes to from turn six total over all within place is_planes turned sums adds =
    let zs : List Sample = drop f.at xs in
    let count : ℕ = to - f.at in
    let is : count ≡ length zs = many xs f.at to all in
    record {
      code = refl;
      carrier = turned ∙ ap (λ k. carrier_phase_after f.carrier.phase f.carrier.step k) is;
      sums =
          adds ∙ ap (λ (b : Counts). sum_of_counts (counts_in f.sums) b)
          (sums
          ∙ six_sums-same (λ j. sample_at planes (from + j)) (sample_at zs)
          (replica_of f.prn (phases_of f.carrier f.code)) 0 count (λ j low high.
          ap (λ (ps : List Sample). sample_at ps (from + j)) is_planes
          ∙ unpacked-at xs w f.at from j over place (omega (arith, all, within))
          (omega (arith, all, high)))
          ∙ ap (λ k. six_sums (sample_at zs) (replica_of f.prn (phases_of f.carrier f.code)) 0 k)
          is);
    }
