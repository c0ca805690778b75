use Rattle.std.proofs.Common.{◌∙◌, ap, refl}
use Rattle.std.proofs.lemmas.Result.{IfOk-from_err}
use Rattle.definitions.specs.Lines.{as_bytes}
use Rattle.receiver.specs.Outputs.{promised}
use Rattle.receiver.proofs.AnswerLemmas.{answered-none, answered-more, answered-part}
use Rattle.receiver.proofs.TextLemmas.{wrote-all}
use Rattle.receiver.proofs.HeldLemmas.{kept-part}
use Rattle.receiver.proofs.OutputLemmas.{nothing-written, wrote-then, writes-broke, adds-err}
use Rattle.receiver.proofs.writing.put_answers.Goals as goal

pub loop-due-init : goal.loop-due-init
loop-due-init g c = record {
  format = refl;
  time = refl;
  wrote = nothing-written g.W.Sink c.args.out.now;
  answered = λ settings clients xs waiting stands.
      answered-none settings clients xs waiting c.args.session.now
      (promised g.W.Sink c.args.out.now) stands;
}

pub loop-due-preserved : goal.loop-due-preserved
loop-due-preserved g c =
    let s = g.W.Sink in
    let i = c.loop-due.invariant in
    let put = c.in_ok-put_answer.ensures.puts c.loop-due.session c.in-Some.ensures.some in
    record {
      format = c.in_ok-put_answer.ensures.packing ∙ c.in-Some.ensures.packing ∙ i.format;
      time = c.in_ok-put_answer.ensures.time ∙ c.in-Some.ensures.time ∙ i.time;
      wrote = wrote-then s c.args.out.now c.loop-due.out c.put_answer.new.out _ i.wrote
          c.in_ok-put_answer.ensures.writes;
      answered = λ settings clients xs waiting stands. answered-more settings clients xs waiting
          (promised s c.args.out.now) (promised s c.loop-due.out) (promised s c.put_answer.new.out)
          c.loop-due.session c.put_answer.new.session put.line put.gives put.puts
          (i.answered settings clients xs waiting stands);
    }

pub returns-in_err-put_answer-clause-adds : goal.returns-in_err-put_answer-clause-adds
returns-in_err-put_answer-clause-adds g c settings clients xs waiting stands =
    let s = g.W.Sink in
    let a = promised s c.args.out.now in
    let b = promised s c.loop-due.out in
    let d = promised s c.put_answer.new.out in
    let put = c.in_err-put_answer.ensures.puts c.loop-due.session c.in-Some.ensures.some in (
      adds-err a d (as_bytes waiting) c.from_residual.result c.from_residual.ensures.0
          (answered-part settings clients xs waiting a b d c.loop-due.session
          c.put_answer.new.session put.line put.gives (kept-part b d _ put.puts)
          (c.loop-due.invariant.answered settings clients xs waiting stands)),
      IfOk-from_err c.from_residual.result _ c.from_residual.ensures.0,
    )

pub returns-in_err-put_answer-clause-writes : goal.returns-in_err-put_answer-clause-writes
returns-in_err-put_answer-clause-writes g c =
    writes-broke g.W.Sink c.args.out.now c.loop-due.out c.put_answer.new.out _
    c.from_residual.result c.loop-due.invariant.wrote c.in_err-put_answer.ensures.writes
    c.from_residual.ensures.0

pub returns-clause-adds : goal.returns-clause-adds
unfolding as_bytes
returns-clause-adds g c settings clients xs waiting stands =
    let h = c.loop-due.invariant.answered settings clients xs waiting stands in
    let n = c.in_default.ensures.none refl settings clients xs h.left h.stands in (
      wrote-all (promised g.W.Sink c.args.out.now) (promised g.W.Sink c.loop-due.out)
          (as_bytes waiting) (as_bytes h.left) (ap as_bytes n.0) h.wrote,
      n.1,
    )

pub returns-clause-writes : goal.returns-clause-writes
returns-clause-writes g c = let w = c.loop-due.invariant.wrote in
    record { same = w.same; grows = w.grows; failure = w.failure }
