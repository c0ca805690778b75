-- Words of a part of a run that are added to a tally, and sums over all of them.
use Rattle.std.specs.Prelude.{◌≡◌, ℕ, ◌+◌, ◌-◌, ◌*◌, ◌/◌, ◌<◌, ◌≤◌, length}
use Rattle.definitions.specs.Samples.{sample_at}
use Rattle.definitions.specs.Correlation.{Phases}
use Rattle.lane_correlator.specs.RangeSums.{HasSumsOf, cut}
use Rattle.lane_correlator.specs.ReplicaWords.{StandAt, placed, HaveRoom, IsMostProduct}
use Rattle.lane_correlator.specs.Tallies.{tally_in, AreAllLow}
use Rattle.lane_correlator.specs.declared.replica.RunPart.{RunPart}
use Rattle.lane_correlator.specs.declared.replica.WordReplica.{WordReplica}
use Rattle.lane_correlator.specs.Counting.{counts_in}
use Rattle.lane_correlator.specs.declared.counts.Counts.{Counts}
use Rattle.lane_correlator.specs.declared.tally.Tally.{Tally}
use Rattle.lane_correlator.specs.declared.tally.TheConstants.{MOST_OF_LANE}
use Rattle.sample_planes.specs.declared.planes.TheConstants.{MAX_SAMPLES}

-- the first word of a run that has samples of a part, and the word after the last of them
abbrev pub first_word : RunPart → ℕ
first_word part = part.from / 64

abbrev pub word_end : RunPart → ℕ
word_end part = (part.to + 63) / 64

-- a part has samples, which a run has, and so few words that lanes have room for them
pub record IsPart (part : RunPart) : Type 0 where
  pub some : part.from < part.to
  pub inside : part.to ≤ length part.samples.now
  pub short : part.to ≤ MAX_SAMPLES
  pub few : HaveRoom part.samples.now (word_end part - first_word part)

-- sums over a part are those with a replica that stands at its first word
pub record HasSums (part : RunPart) (r : WordReplica) (c : Counts) : Type 0 where
  pub are : (first : ℕ) (p : Phases) → first ≤ first_word part
      → StandAt p first (first_word part) r.carrier r.code
      → HasSumsOf (sample_at part.samples.now) (placed r.prn p (64 * first)) part.from part.to
      (counts_in c)

-- each lane of a tally is n at most in size, and products are this great at most: so the lanes have
-- room for the words
pub record HasRoom (part : RunPart) (a b n most : ℕ) (t : Tally) : Type 0 where
  pub product : IsMostProduct part.samples.now most
  pub low : AreAllLow n t
  pub room : n + (b - a) * (2 * most) ≤ MOST_OF_LANE

-- the words are added with a replica that stands at the first of them
pub record AddsWords (part : RunPart) (a b : ℕ) (r : WordReplica) (t u : Tally) : Type 0 where
  pub low : (n most : ℕ) → HasRoom part a b n most t → AreAllLow (n + (b - a) * (2 * most)) u
  pub sums : (first n most : ℕ) (p : Phases) → HasRoom part a b n most t
      → first ≤ a → StandAt p first a r.carrier r.code
      → HasSumsOf (sample_at part.samples.now) (placed r.prn p (64 * first)) part.from
      (cut part.from part.to a) (tally_in t)
      → HasSumsOf (sample_at part.samples.now) (placed r.prn p (64 * first)) part.from
      (cut part.from part.to b) (tally_in u)

-- a replica goes on from word a to word b
pub record GoesOn (a b : ℕ) (r s : WordReplica) : Type 0 where
  pub stand : (first : ℕ) (p : Phases) → first ≤ a → StandAt p first a r.carrier r.code
      → StandAt p first b s.carrier s.code
  pub step : s.code.step ≡ r.code.step
  pub prn : s.prn ≡ r.prn
