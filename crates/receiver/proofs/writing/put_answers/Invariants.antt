use Rattle.std.proofs.Common.{◌≡◌, ℕ, List}
use Rattle.definitions.specs.Samples.{Sample}
use Rattle.definitions.specs.Oscillators.{Settings}
use Rattle.definitions.specs.Receiver.{Client}
use Rattle.receiver.specs.Sessions.{StandsFor, packing_in, time_of, lines_left}
use Rattle.receiver.specs.Runs.{HasAnswered}
use Rattle.receiver.specs.Outputs.{promised}
use Rattle.receiver.proofs.OutputLemmas.{Wrote}
use Rattle.receiver.proofs.writing.put_answers.Given as goal

abbrev pub invariant-loop-due : goal.invariant-loop-due
invariant-loop-due g l = let sink = g.W.Sink in record {
  format : packing_in l.session ≡ packing_in l.fn.session;
  time : time_of l.session ≡ time_of l.fn.session;
  wrote : Wrote sink l.fn.out l.out;
  answered : (settings : Settings) (clients : List Client) (xs : List Sample)
      (waiting : List (List ℕ)) → StandsFor settings clients l.fn.session xs waiting
      → HasAnswered settings clients xs waiting (promised sink l.fn.out) l.session
      (promised sink l.out);
}

abbrev pub decreases-loop-due : goal.decreases-loop-due
decreases-loop-due g l = lines_left l.session
