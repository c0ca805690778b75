use Rattle.std.proofs.Common.{◌∙◌, drop, take, subst}
use Rattle.std.specs.Io.KnownBytes.{Appends}
use Rattle.std.proofs.KnownBytes.{Keeps-refl}
use Rattle.receiver.specs.Outputs.{promised}
use Rattle.receiver.proofs.HeldLemmas.{grows-kept, grows-on, moved, slice-from}
use Rattle.receiver.proofs.OutputLemmas.{nothing-written, tells-err}
use Rattle.receiver.proofs.output.Output.send.Goals as goal

pub loop-self-init : goal.loop-self-init
loop-self-init g c = record {
  kept = Keeps-refl (promised g.W.Sink c.args.self.now);
  wrote = nothing-written g.W.Sink c.args.self.now;
}

pub returns-in_err-count-clause-writes : goal.returns-in_err-count-clause-writes
returns-in_err-count-clause-writes g c = let s = g.W.Sink in record {
  same = c.loop-self.invariant.wrote.same;
  grows =
      grows-kept (s.contents c.args.self.now.writer.now) (s.contents c.loop-self.self.writer.now)
      (s.contents c.write.new.self) c.loop-self.invariant.wrote.grows c.in_err-count.ensures.bytes;
  failure =
      tells-err c.from_residual.result _ _ c.from_residual.ensures.0 c.in_err-count.ensures.failure;
}

pub loop-self-preserved : goal.loop-self-preserved
loop-self-preserved g c =
    let s = g.W.Sink in
    let i = c.loop-self.invariant in
    let out = c.loop-self.self in
    let a = s.contents c.args.self.now.writer.now in
    let b = s.contents out.writer.now in
    let d = s.contents c.write.new.self in
    let n = c.in_ok-count.count in
    let took =
    subst (λ r. Appends b d (take n r))
    (slice-from c.deref.result.now out.bytes.items out.sent c.deref.ensures.0)
    c.in_ok-count.ensures.bytes in
    record {
      kept = moved (promised s c.args.self.now) b d out.bytes.items out.sent n i.kept took;
      wrote = record {
        same = i.wrote.same;
        grows = grows-on a b d i.wrote.grows (take n (drop out.sent out.bytes.items), took);
        failure = c.in_ok-count.ensures.failure ∙ i.wrote.failure;
      };
    }

pub returns-clause-writes : goal.returns-clause-writes
returns-clause-writes g c = let w = c.loop-self.invariant.wrote in
    record { same = w.same; grows = w.grows; failure = w.failure }
