use Rattle.std.proofs.Common.{rules, refl, List, [], ap, sym, subst}
use Rattle.std.specs.Io.KnownBytes.{Appends}
use Rattle.std.proofs.KnownBytes.{Consumes-nil}
use Rattle.definitions.specs.Samples.{Sample}
use Rattle.definitions.specs.Lines.{as_bytes}
use Rattle.definitions.specs.Receiver.{body, answer_lines}
use Rattle.definitions.specs.Runs.{clients_of}
use Rattle.receiver.specs.Outputs.{held, promised}
use Rattle.devices.specs.Moments.{devices_at}
use Rattle.receiver.specs.Runs.{task_of, samples_read, text_for, BrokeOff, Ran}
use Rattle.receiver.specs.Texts.{AppendsPart}
use Rattle.receiver.proofs.HeldLemmas.{none-held, unheld}
use Rattle.receiver.proofs.OutputLemmas.{at-end, writes-then, writes-from}
use Rattle.receiver.proofs.RunLemmas.{opened, promised-new, none-read, last-all, last-part}
use Rattle.receiver.proofs.TableLemmas.{breaks-in-body, breaks-in-end}
use Rattle.receiver.proofs.TextLemmas.{on_err}
use Rattle.receiver.proofs.running.run_session.Goals as goal

pub returns-in_err-put_answers-clause-broken : goal.returns-in_err-put_answers-clause-broken
unfolding body
returns-in_err-put_answers-clause-broken g c =
    let s = g.W.Sink in let w = c.args.writer.now in let first = c.new-out.result in
    let last = c.put_answers.new.out in let e = c.in_err-put_answers.ensures in
    let from = writes-from s w first last _ c.new-out.ensures.value e.writes in
    let new = promised-new s first w c.new-out.ensures.value c.new-out.ensures.none in
    on_err c.from_residual.result _ (λ settings shares scripts open_is.
    let clients = clients_of (task_of settings shares scripts c.args.limit) in
    let start = s.contents w in
    let now = s.contents last.writer.now in
    let part =
    unheld start now (held last) _ from.0
    (rw new at (e.adds settings clients [] (answer_lines settings clients []) open_is.stands).0) in
    let Q : List Sample → Type 0 = λ ys. AppendsPart start now (body settings ys clients) in
    at-end s (λ x. BrokeOff (task_of settings shares scripts c.args.limit)
    (devices_at g.R.Source s c.args.reader.now w) (devices_at g.R.Source s c.args.reader.now x))
    _ _ first last _ c.new-out.ensures.same e.writes (search rules)
    (breaks-in-body settings shares scripts c.args.limit [] _ _
    (Consumes-nil (g.R.Source.remaining c.args.reader.now)) (refl, refl) from.1
    (subst Q (none-read settings c.args.limit)
    (subst (AppendsPart start now) (ap as_bytes (sym open_is.first)) part))))

pub returns-in_err-stop-clause-broken : goal.returns-in_err-stop-clause-broken
returns-in_err-stop-clause-broken g c =
    let s = g.W.Sink in let w = c.args.writer.now in let first = c.new-out.result in
    let last = c.read_all.new.out in
    let writes = writes-then s first c.put_answers.new.out last _ _
    c.in_ok-put_answers.ensures.writes c.in_err-stop.ensures.writes in
    let from = writes-from s w first last _ c.new-out.ensures.value writes in
    let new = promised-new s first w c.new-out.ensures.value c.new-out.ensures.none in
    on_err c.from_residual-in_err-stop.result _ (λ settings shares scripts open_is.
    let clients = clients_of (task_of settings shares scripts c.args.limit) in
    let start = s.contents w in
    let broke = c.in_err-stop.ensures.reads settings clients start
    (opened settings clients c.args.session.now c.put_answers.new.session start
    (promised s first) (promised s c.put_answers.new.out) new open_is
    (c.in_ok-put_answers.ensures.adds settings clients [] (answer_lines settings clients [])
    open_is.stands)) in
    at-end s (λ x. BrokeOff (task_of settings shares scripts c.args.limit)
    (devices_at g.R.Source s c.args.reader.now w)
    (devices_at g.R.Source s c.read_all.new.reader x))
    _ _ first last _ c.new-out.ensures.same writes (search rules)
    (breaks-in-body settings shares scripts c.args.limit broke.read _ _ broke.consumed broke.ended
    from.1 (unheld start (s.contents last.writer.now) (held last) _ from.0 broke.written)))

pub returns-in_err-finish-clause-broken : goal.returns-in_err-finish-clause-broken
returns-in_err-finish-clause-broken g c =
    let s = g.W.Sink in let w = c.args.writer.now in let first = c.new-out.result in
    let read = c.read_all.new.out in let last = c.finish.new.out in
    let writes = writes-then s first read last _ _
    (writes-then s first c.put_answers.new.out read _ _ c.in_ok-put_answers.ensures.writes
    c.in_ok-stop.ensures.writes) c.in_err-finish.ensures.writes in
    let from = writes-from s w first last _ c.new-out.ensures.value writes in
    let new = promised-new s first w c.new-out.ensures.value c.new-out.ensures.none in
    on_err c.from_residual-in_err-finish.result _ (λ settings shares scripts open_is.
    let clients = clients_of (task_of settings shares scripts c.args.limit) in
    let start = s.contents w in
    let has = c.in_ok-stop.ensures.reads settings clients start
    (opened settings clients c.args.session.now c.put_answers.new.session start
    (promised s first) (promised s c.put_answers.new.out) new open_is
    (c.in_ok-put_answers.ensures.adds settings clients [] (answer_lines settings clients [])
    open_is.stands)) in
    at-end s (λ x. BrokeOff (task_of settings shares scripts c.args.limit)
    (devices_at g.R.Source s c.args.reader.now w)
    (devices_at g.R.Source s c.read_all.new.reader x))
    _ _ first last _ c.new-out.ensures.same writes (search rules)
    (breaks-in-end settings shares scripts c.args.limit has.read _ _ c.in_ok-stop.stop has.consumed
    from.1 has.why
    (unheld start (s.contents last.writer.now) (held last) _ from.0
    (last-part settings clients start (promised s read) (promised s last)
    c.read_all.new.session (samples_read settings c.args.limit has.read) c.in_ok-stop.stop has.at
    c.in_err-finish.ensures.adds))))

pub returns-clause-ran : goal.returns-clause-ran
returns-clause-ran g c settings shares scripts open_is =
    let s = g.W.Sink in let w = c.args.writer.now in let first = c.new-out.result in
    let read = c.read_all.new.out in let last = c.finish.new.out in
    let writes = writes-then s first read last _ _
    (writes-then s first c.put_answers.new.out read _ _ c.in_ok-put_answers.ensures.writes
    c.in_ok-stop.ensures.writes) c.in_ok-finish.ensures.writes in
    let from = writes-from s w first last _ c.new-out.ensures.value writes in
    let new = promised-new s first w c.new-out.ensures.value c.new-out.ensures.none in
    let clients = clients_of (task_of settings shares scripts c.args.limit) in
    let start = s.contents w in
    let has = c.in_ok-stop.ensures.reads settings clients start
    (opened settings clients c.args.session.now c.put_answers.new.session start
    (promised s first) (promised s c.put_answers.new.out) new open_is
    (c.in_ok-put_answers.ensures.adds settings clients [] (answer_lines settings clients [])
    open_is.stands)) in
    let xs = samples_read settings c.args.limit has.read in
    at-end s (λ x. Ran settings clients c.args.limit c.read_all.new.session
    (devices_at g.R.Source s c.args.reader.now w)
    (devices_at g.R.Source s c.read_all.new.reader x) c.in_ok-stop.stop)
    _ _ first last _ c.new-out.ensures.same writes (search rules)
    (record {
      read = has.read;
      consumed = has.consumed;
      stands = has.at.stands;
      completes = record {
        why = has.why;
        written =
            subst (λ b. Appends start b (text_for c.in_ok-stop.stop settings xs clients))
            (none-held (s.contents last.writer.now) (held last) c.in_ok-finish.ensures.none)
            (last-all settings clients start (promised s read) (promised s last)
            c.read_all.new.session xs c.in_ok-stop.stop has.at c.in_ok-finish.ensures.adds);
        write_failed = from.1;
      };
    })
