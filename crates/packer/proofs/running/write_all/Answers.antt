use Rattle.std.proofs.Common.{◌≡◌, ◌-◌, ◌∙◌, ℕ, List, length, take, drop, ap, arith}
use Rattle.std.proofs.lemmas.List.{take_rest, length-drop}
use Rattle.packer.proofs.DeviceLemmas.{on_err, took, front_of}
use Rattle.packer.proofs.running.write_all.Goals as goal

pub returns-in_err-sent-clause-err : goal.returns-in_err-sent-clause-err
returns-in_err-sent-clause-err g c =
    on_err c.from_residual.result _
    (front_of (g.W.Sink.contents c.args.writer.now)
    (g.W.Sink.contents c.loop-sent.writer) (g.W.Sink.contents c.write.new.self)
    c.args.bytes.now c.loop-sent.sent c.loop-sent.invariant.written c.in_err-sent.ensures.bytes)

pub loop-sent-preserved : goal.loop-sent-preserved
loop-sent-preserved g c = record {
  within =
      let left : length (take (length c.args.bytes.now - c.loop-sent.sent)
      (drop c.loop-sent.sent c.args.bytes.now)) ≡ length c.args.bytes.now - c.loop-sent.sent =
      ap (λ (l : List ℕ). length l) (take_rest c.args.bytes.now c.loop-sent.sent)
      ∙ length-drop c.loop-sent.sent c.args.bytes.now in
      omega (arith, left, c.in_ok-sent.ensures.bound, c.loop-sent.invariant.within);
  written =
      took (g.W.Sink.contents c.args.writer.now) (g.W.Sink.contents c.loop-sent.writer)
      (g.W.Sink.contents c.write.new.self) c.args.bytes.now c.loop-sent.sent
      c.in_ok-sent.field-0 c.loop-sent.invariant.written c.in_ok-sent.ensures.bytes;
  failure = c.in_ok-sent.ensures.failure ∙ c.loop-sent.invariant.failure;
}
