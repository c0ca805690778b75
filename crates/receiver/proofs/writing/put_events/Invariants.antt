use Rattle.std.proofs.Common.{drop}
use Rattle.std.specs.Prelude.{map}
use Rattle.definitions.specs.Lines.{as_bytes}
use Rattle.slot_protocol.specs.Events.{line_of}
use Rattle.receiver.proofs.OutputLemmas.{HasPut}
use Rattle.receiver.proofs.writing.put_events.Given as goal

abbrev pub invariant-loop-event : goal.invariant-loop-event
invariant-loop-event g l =
    HasPut g.W.Sink l.fn.out l.out (as_bytes (map line_of l.events))
    (as_bytes (map line_of (drop l.event-index l.events)))
