use Rattle.std.proofs.Common.{◌≡◌, ◌+◌, ◌-◌, ◌++◌, ℕ, List, sym, ap, ◌∙◌, subst, arith}
use Rattle.std.specs.Prelude.{codes}
use Rattle.definitions.specs.Lines.{as_bytes, ended_line}
use Rattle.definitions.specs.Texts.{for_client, at_time}
use Rattle.receiver.specs.LastLines.{ends}
use Rattle.receiver.specs.Outputs.{promised, Adds}
use Rattle.receiver.specs.Sessions.{time_of}
use Rattle.receiver.proofs.TextLemmas.{wrote-all}
use Rattle.receiver.proofs.OpeningLemmas.{ends-next, ends-done}
use Rattle.receiver.proofs.OutputLemmas.{put-none, put-more, put-broke, writes-broke}
use Rattle.receiver.proofs.writing.put_ends.Goals as goal

-- the ends that are left after k of n clients
abbrev left-after : ℕ → ℕ → ℕ → List ℕ
left-after time n k = as_bytes (ends time (k + 1) (n - k))

pub loop-client-init : goal.loop-client-init
loop-client-init g c =
    let n = c.clients-client-end.result in
    let z : n - 0 ≡ n = omega arith in
    rw z (put-none g.W.Sink c.args.out.now (as_bytes (ends (time_of c.args.session.now) 1 n)))

pub loop-client-preserved : goal.loop-client-preserved
loop-client-preserved g c =
    let time = time_of c.args.session.now in
    let k = c.loop-client.client in
    let n = c.clients-client-end.result in
    let line = c.deref.ensures.0 ∙ c.end_line.ensures
    ∙ ap (λ (t : ℕ). ended_line (for_client (k + 1) (at_time t (codes "end")))) c.time.ensures in
    put-more g.W.Sink c.args.out.now c.loop-client.out c.put.new.self _ (left-after time n k)
    c.deref.result.now (left-after time n (k + 1)) _ c.loop-client.invariant
    (ends-next time k n c.loop-client-test.true
    ∙ ap (λ l. l ++ left-after time n (k + 1)) (sym line))
    c.in_ok-put.ensures.puts c.in_ok-put.ensures.writes

pub returns-in_err-put-clause-adds : goal.returns-in_err-put-clause-adds
returns-in_err-put-clause-adds g c =
    let s = g.W.Sink in
    let time = time_of c.args.session.now in
    let k = c.loop-client.client in
    let n = c.clients-client-end.result in
    let line = c.deref.ensures.0 ∙ c.end_line.ensures
    ∙ ap (λ (t : ℕ). ended_line (for_client (k + 1) (at_time t (codes "end")))) c.time.ensures in
    subst (λ m. Adds (promised s c.args.out.now) (promised s c.put.new.self)
    (as_bytes (ends time 1 m)) c.from_residual.result) c.clients-client-end.ensures.number
    (put-broke s c.args.out.now c.loop-client.out c.put.new.self _ (left-after time n k)
    c.deref.result.now (left-after time n (k + 1)) c.from_residual.result c.loop-client.invariant
    (ends-next time k n c.loop-client-test.true
    ∙ ap (λ l. l ++ left-after time n (k + 1)) (sym line))
    c.in_err-put.ensures.puts c.from_residual.ensures.0)

pub returns-in_err-put-clause-writes : goal.returns-in_err-put-clause-writes
returns-in_err-put-clause-writes g c =
    writes-broke g.W.Sink c.args.out.now c.loop-client.out c.put.new.self _ c.from_residual.result
    c.loop-client.invariant.wrote c.in_err-put.ensures.writes c.from_residual.ensures.0

pub returns-clause-adds : goal.returns-clause-adds
returns-clause-adds g c =
    let time = time_of c.args.session.now in
    let k = c.loop-client.client in
    let n = c.clients-client-end.result in
    rw (← c.clients-client-end.ensures.number)
    (wrote-all (promised g.W.Sink c.args.out.now) (promised g.W.Sink c.loop-client.out) _
    (left-after time n k) (ends-done time k n c.loop-client-test.false)
    c.loop-client.invariant.up_to)

pub returns-clause-writes : goal.returns-clause-writes
returns-clause-writes g c = let w = c.loop-client.invariant.wrote in
    record { same = w.same; grows = w.grows; failure = w.failure }
