use Rattle.std.proofs.Common.{◌-◌, length}
use Rattle.std.specs.Io.KnownBytes.{Keeps}
use Rattle.receiver.specs.Outputs.{promised}
use Rattle.receiver.proofs.OutputLemmas.{Wrote}
use Rattle.receiver.proofs.output.Output.send.Given as goal

abbrev pub invariant-loop-self : goal.invariant-loop-self
invariant-loop-self g l = let sink = g.W.Sink in record {
  kept : Keeps (promised sink l.fn.self) (promised sink l.self);
  wrote : Wrote sink l.fn.self l.self;
}

abbrev pub decreases-loop-self : goal.decreases-loop-self
decreases-loop-self g l = length l.self.bytes.items - l.self.sent
