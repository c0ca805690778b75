-- Six sums while they are added up.
use Rattle.std.specs.Prelude.{◌≡◌, ℕ}
use Rattle.definitions.specs.Correlation.{Counts, sum_of_counts}
use Rattle.oscillators.specs.declared.code_words.ChipLanes.{ChipLanes}
use Rattle.lane_correlator.specs.Bytes.{signed_total}
use Rattle.lane_correlator.specs.LaneTotals.{AreLow}
use Rattle.lane_correlator.specs.Chips.{lanes_in}
use Rattle.lane_correlator.specs.declared.tally.Tally.{Tally}
use Rattle.lane_correlator.specs.declared.wiped.Wiped.{Wiped}

-- the sums of the lanes
abbrev pub tally_in : Tally → Counts
tally_in t = lanes_in t.all t.early t.prompt t.late

-- the six sums of the products of a word with its chips
abbrev pub word_sums : Wiped → ChipLanes → Counts
word_sums p chips = record {
  ie = signed_total p.i chips.early;
  qe = signed_total p.q chips.early;
  ip = signed_total p.i chips.prompt;
  qp = signed_total p.q chips.prompt;
  il = signed_total p.i chips.late;
  ql = signed_total p.q chips.late;
}

-- no lane of a sum with chips is more than n in size
pub record AreAllLow (n : ℕ) (t : Tally) : Type 0 where
  pub early : AreLow n t.all t.early
  pub prompt : AreLow n t.all t.prompt
  pub late : AreLow n t.all t.late

-- a word is added, and no lane is more than n in size then
pub record AddsWord (n : ℕ) (p : Wiped) (chips : ChipLanes) (s t : Tally) : Type 0 where
  pub sums : tally_in t ≡ sum_of_counts (tally_in s) (word_sums p chips)
  pub low : AreAllLow n t
