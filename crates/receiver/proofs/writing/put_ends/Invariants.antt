use Rattle.std.proofs.Common.{◌+◌, ◌-◌}
use Rattle.definitions.specs.Lines.{as_bytes}
use Rattle.receiver.specs.LastLines.{ends}
use Rattle.receiver.specs.Sessions.{time_of}
use Rattle.receiver.proofs.OutputLemmas.{HasPut}
use Rattle.receiver.proofs.writing.put_ends.Given as goal

abbrev pub invariant-loop-client : goal.invariant-loop-client
invariant-loop-client g l =
    HasPut g.W.Sink l.fn.out l.out (as_bytes (ends (time_of l.session) 1 l.client-end))
    (as_bytes (ends (time_of l.session) (l.client + 1) (l.client-end - l.client)))
