use Rattle.std.proofs.Common.{◌≤◌, ◌<◌, ◌-◌, ◌*◌, ◌/◌}
use Rattle.definitions.specs.Samples.{sample_at}
use Rattle.lane_correlator.specs.Counting.{counts_in}
use Rattle.lane_correlator.specs.ReplicaWords.{placed, phases_of}
use Rattle.lane_correlator.specs.RangeSums.{HasSumsOf}
use Rattle.lane_correlator.specs.Adding.{GoesOn}
use Rattle.lane_correlator.proofs.with_replica.replica_sums.Given as goal

abbrev pub invariant-loop-here : goal.invariant-loop-here
invariant-loop-here l = record {
  from : l.from ≤ l.here;
  to : l.here ≤ l.to;
  goes : l.here < l.to → GoesOn (l.from / 64) (l.here / 64) l.initial.replica l.replica;
  sums : HasSumsOf (sample_at l.samples) (placed l.fn.prn
      (phases_of l.initial.replica.carrier l.initial.replica.code) (64 * (l.from / 64))) l.from
      l.here (counts_in l.counts);
}

abbrev pub decreases-loop-here : goal.decreases-loop-here
decreases-loop-here l = l.to - l.here
