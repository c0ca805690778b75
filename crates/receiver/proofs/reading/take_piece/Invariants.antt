use Rattle.std.proofs.Common.{◌≡◌, ℕ, ◌+◌, ◌-◌, ◌<◌, ◌≤◌, List, ◌++◌, take}
use Rattle.std.specs.Prelude.{Option}
use Rattle.definitions.specs.Oscillators.{Settings}
use Rattle.definitions.specs.Samples.{Sample}
use Rattle.definitions.specs.Receiver.{Client}
use Rattle.receiver.specs.Sessions.{packing_in, time_of, until_next}
use Rattle.receiver.specs.Runs.{IsWrittenTo}
use Rattle.receiver.specs.Outputs.{promised}
use Rattle.receiver.proofs.OutputLemmas.{Wrote}
use Rattle.receiver.proofs.reading.take_piece.Given as goal

abbrev pub invariant-loop-first : goal.invariant-loop-first
invariant-loop-first g l = let sink = g.W.Sink in record {
  within : l.first ≤ l.count;
  format : packing_in l.session ≡ packing_in l.fn.session;
  time : time_of l.session ≡ time_of l.fn.session + l.first;
  ready : 0 < until_next l.session;
  wrote : Wrote sink l.fn.out l.out;
  written : (settings : Settings) (clients : List Client) (start : Option (List ℕ))
      (xs : List Sample)
      → IsWrittenTo settings clients start l.fn.session (promised sink l.fn.out) xs
      → IsWrittenTo settings clients start l.session (promised sink l.out)
      (xs ++ take l.first l.piece.samples);
}

-- proposed from the loop's first test
abbrev pub decreases-loop-first : goal.decreases-loop-first
decreases-loop-first g l = l.count - l.first
