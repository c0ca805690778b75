-- What holds of the definitions. Each of these is promised by a function of the same name in this
-- crate. (This project's own.)
use Rattle.std.specs.Prelude.{ℕ, ◌≡◌, ◌+◌, ◌*◌, ◌<◌, ◌≤◌, Bool, true, ℤ, neg_ℤ, ◌*ℤ◌, List, [], ◌∷◌}
use Rattle.std.specs.Prelude.{◌++◌, length, slice_get, Some}
use Rattle.std.specs.List.{AllByRecursion}
use Rattle.definitions.specs.Sums.{sum_between}
use Rattle.definitions.specs.Samples.{Sample, real}
use Rattle.definitions.specs.Oscillators.{Settings}
use Rattle.definitions.specs.Correlation.{Replica, in_phase_sum, quadrature_sum, six_sums}
use Rattle.definitions.specs.Correlation.{sum_of_counts}
use Rattle.definitions.specs.Segments.{Channel, Dump, dumps_of, progress, closed_if_ended}
use Rattle.definitions.specs.Acquisition.{Plan, cell_count, bin_of, half_chip_of, named_cell}
use Rattle.definitions.specs.Acquisition.{dwell_end, result_of}
use Rattle.definitions.specs.BitEdge.{edge_of}
use Rattle.definitions.specs.Parity.{passes, data_of}
use Rattle.definitions.specs.Frames.{Found, starts_of, subframe_at, found_by, word_at, prior_at}
use Rattle.definitions.specs.Commands.{TimedRequest}
use Rattle.definitions.specs.Lives.{Life, is_over, life_of, life_after}
use Rattle.definitions.specs.Answers.{answer_at_end, refused}

-- ---- a slot

-- Commands that have all come by now leave the same life, whatever samples follow.
abbrev pub LivesStay : Type 0
LivesStay = (settings : Settings) (xs ys : List Sample) (commands : List TimedRequest)
    → AllByRecursion (λ (c : TimedRequest). c.time ≤ length xs) commands
    → life_of settings (xs ++ ys) commands ≡ life_of settings xs commands

-- What samples have ended stays ended, whatever samples follow.
abbrev pub EndsStay : Type 0
EndsStay = (settings : Settings) (xs ys : List Sample) (life : Life)
    → is_over settings xs life ≡ true → is_over settings (xs ++ ys) life ≡ true

-- What an acquisition names rests on the samples of its dwell.
abbrev pub AcquisitionsStay : Type 0
AcquisitionsStay = (settings : Settings) (plan : Plan) (xs ys : List Sample) (start : ℕ)
    → dwell_end settings plan start ≤ length xs
    → result_of settings plan (xs ++ ys) start ≡ result_of settings plan xs start

-- Of the first count cells, the first that none of them exceeds.
pub record IsFirstGreatest (power : ℕ → ℕ) (count named : ℕ) : Type 0 where
  pub is_cell : named < count
  pub none_exceeds : (k : ℕ) → k < count → power k ≤ power named
  pub none_before : (k : ℕ) → k < named → power k < power named

-- The cell that is named has a power that no cell exceeds, and no earlier cell has the same.
abbrev pub NamedCellIsGreatest : Type 0
NamedCellIsGreatest = (plan : Plan) (power : ℕ → ℕ)
    → (named : ℕ) × IsFirstGreatest power (cell_count plan) named
    × ((named_cell plan power).bin ≡ bin_of plan named)
    × ((named_cell plan power).half_chip ≡ half_chip_of named)
    × ((named_cell plan power).power ≡ power named)

-- The dumps of more samples begin with those of fewer.
abbrev pub DumpsStay : Type 0
DumpsStay = (settings : Settings) (channel : Channel) (xs ys : List Sample)
    → (rest : List Dump)
    × (dumps_of settings channel (xs ++ ys) ≡ dumps_of settings channel xs ++ rest)

-- With one more command the life is what that command makes of the one before.
abbrev pub LivesGrowByOne : Type 0
LivesGrowByOne = (settings : Settings) (xs : List Sample) (commands : List TimedRequest)
    (command : TimedRequest)
    → life_of settings xs (commands ++ command ∷ [])
    ≡ life_after settings xs (life_of settings xs commands) command

-- A command that is refused may be left out of the history, whatever samples and commands follow
-- it.
abbrev pub RefusedIsLeftOut : Type 0
RefusedIsLeftOut = (settings : Settings) (xs ys : List Sample) (before after : List TimedRequest)
    (command : TimedRequest) (number : ℕ)
    → AllByRecursion (λ (c : TimedRequest). c.time ≤ length xs) before → command.time ≡ length xs
    → answer_at_end settings xs before command.request ≡ refused number
    → life_of settings (xs ++ ys) (before ++ command ∷ after)
    ≡ life_of settings (xs ++ ys) (before ++ after)

-- With one more sample the open segment ends with it, or stays open.
abbrev pub SegmentsGrowByOne : Type 0
SegmentsGrowByOne = (settings : Settings) (channel : Channel) (xs : List Sample) (x : Sample)
    → progress settings channel (xs ++ x ∷ [])
    ≡ closed_if_ended settings channel (xs ++ x ∷ []) (progress settings channel xs)

-- ---- sums

-- Of real samples the sums are those of sample times cosine times chip, and of minus sample times
-- sine times chip.
abbrev pub RealSamplesInPhase : Type 0
RealSamplesInPhase = (x : ℕ → ℤ) (cos sin chip : ℕ → ℤ) (from to : ℕ)
    → in_phase_sum (λ j. real (x j)) cos sin chip from to
    ≡ sum_between (λ j. x j *ℤ cos j *ℤ chip j) from to

abbrev pub RealSamplesInQuadrature : Type 0
RealSamplesInQuadrature = (x : ℕ → ℤ) (cos sin chip : ℕ → ℤ) (from to : ℕ)
    → quadrature_sum (λ j. real (x j)) cos sin chip from to
    ≡ sum_between (λ j. neg_ℤ (x j) *ℤ sin j *ℤ chip j) from to

-- The sums over a range that is split in two add up.
abbrev pub RangesAddUp : Type 0
RangesAddUp = (x : ℕ → Sample) (replica : Replica) (from mid to : ℕ) → from ≤ mid → mid ≤ to
    → six_sums x replica from to
    ≡ sum_of_counts (six_sums x replica from mid) (six_sums x replica mid to)

-- ---- bits and words

-- The edge of the bits stays where it is, whatever pushes follow.
abbrev pub EdgesStay : Type 0
EdgesStay = (pushes more : List ℤ) (k : ℕ) → edge_of pushes ≡ Some k
    → edge_of (pushes ++ more) ≡ Some k

-- The starts of more bits begin with those of fewer, and a subframe whose 300 bits are there stays
-- as it is.
abbrev pub StartsStay : Type 0
StartsStay = (bits more : List Bool)
    → (rest : List ℕ) × (starts_of (bits ++ more) ≡ starts_of bits ++ rest)

abbrev pub SubframesStay : Type 0
SubframesStay = (bits more : List Bool) (n : ℕ) → n + 300 ≤ length bits
    → subframe_at (bits ++ more) n ≡ subframe_at bits n

-- A word of a subframe at place n passes with the two bits before it, and its data are what is
-- shown.
abbrev pub IsChecked : List Bool → ℕ → ℕ → ℕ → Type 0
IsChecked bits n i shown =
    (passes (word_at bits (n + 30 * i)) (prior_at bits (n + 30 * i)) ≡ true)
    × (shown ≡ data_of (word_at bits (n + 30 * i)) (prior_at bits (n + 30 * i)))

-- A subframe that the last bit makes whole is that of the last 300 bits, two bits are there before
-- them, and each word that is shown of it is checked.
abbrev pub ShownWordsPass : Type 0
ShownWordsPass = (bits : List Bool) (found : Found) → found_by bits ≡ Some found
    → (n : ℕ) × (2 ≤ n) × (n + 300 ≡ length bits)
    × ((i shown : ℕ) → i < 10 → slice_get found.subframe.words i ≡ Some (Some shown)
    → IsChecked bits n i shown)
