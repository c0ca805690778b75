-- Sums and masks with the three kinds of chips.
use Rattle.definitions.specs.Correlation.{Counts}
use Rattle.oscillators.specs.declared.code_words.ChipLanes.{ChipLanes}
use Rattle.lane_correlator.specs.Bytes.{AreMasks}
use Rattle.lane_correlator.specs.LaneTotals.{in_phase_of, quadrature_of}
use Rattle.lane_correlator.specs.declared.lane_sums.LaneSums.{LaneSums}

pub record AreMasksOfChips (chips : ChipLanes) : Type 0 where
  pub early : AreMasks chips.early
  pub prompt : AreMasks chips.prompt
  pub late : AreMasks chips.late

-- the six sums of lanes
abbrev pub lanes_in : LaneSums → LaneSums → LaneSums → LaneSums → Counts
lanes_in all early prompt late = record {
  ie = in_phase_of all early;
  qe = quadrature_of all early;
  ip = in_phase_of all prompt;
  qp = quadrature_of all prompt;
  il = in_phase_of all late;
  ql = quadrature_of all late;
}
