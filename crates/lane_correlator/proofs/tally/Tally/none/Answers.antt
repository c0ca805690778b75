use Rattle.lane_correlator.proofs.TallyLemmas.{none_in, low_none}
use Rattle.lane_correlator.proofs.tally.Tally.none.Goals as goal

pub returns-clause-sums : goal.returns-clause-sums
returns-clause-sums c =
    none_in c.none.result c.none-2.result c.none-3.result c.none-4.result c.none.ensures
    c.none-2.ensures c.none-3.ensures c.none-4.ensures

pub returns-clause-low : goal.returns-clause-low
returns-clause-low c = record {
  early = low_none 0 c.none.result c.none-2.result c.none.ensures c.none-2.ensures;
  prompt = low_none 0 c.none.result c.none-3.result c.none.ensures c.none-3.ensures;
  late = low_none 0 c.none.result c.none-4.result c.none.ensures c.none-4.ensures;
}
