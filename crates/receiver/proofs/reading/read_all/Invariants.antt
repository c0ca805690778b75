use Rattle.std.proofs.Common.{◌≡◌, ◌-◌, ◌<◌}
use Rattle.std.specs.Prelude.{false}
use Rattle.receiver.specs.Sessions.{packing_in, time_of, until_next}
use Rattle.receiver.specs.Runs.{devices_once_sent}
use Rattle.receiver.proofs.OutputLemmas.{Wrote}
use Rattle.receiver.proofs.ReadLemmas.{HasRead}
use Rattle.receiver.proofs.reading.read_all.Given as goal

abbrev pub invariant-loop-reader : goal.invariant-loop-reader
invariant-loop-reader g l = let source = g.R.Source in let sink = g.W.Sink in record {
  format : packing_in l.session ≡ packing_in l.fn.session;
  ready : 0 < until_next l.session;
  asked_again : source.has_failed l.fn.reader ≡ false
      → source.was_asked_again l.reader ≡ source.was_asked_again l.fn.reader;
  wrote : Wrote sink l.fn.out l.out;
  taken : HasRead l.limit l.fn.session l.session
      (devices_once_sent source sink l.fn.reader l.fn.out)
      (devices_once_sent source sink l.reader l.out);
}

abbrev pub decreases-loop-reader : goal.decreases-loop-reader
decreases-loop-reader g l = l.limit - time_of l.session
