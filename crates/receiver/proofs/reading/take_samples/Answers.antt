use Rattle.std.proofs.Common.{◌++◌, ◌∙◌, ap, sym}
use Rattle.std.specs.Prelude.{map}
use Rattle.std.proofs.lemmas.Result.{MatchResult-from_err}
use Rattle.definitions.specs.Receiver.{body_lines, body, answer_lines}
use Rattle.slot_protocol.specs.Events.{line_of}
use Rattle.receiver.specs.Outputs.{promised}
use Rattle.receiver.proofs.AnswerLemmas.{stretch-taken, stretch-part-told}
use Rattle.receiver.proofs.OutputLemmas.{writes-then}
use Rattle.receiver.proofs.reading.take_samples.Goals as goal

pub returns-in_err-put_events-clause-takes : goal.returns-in_err-put_events-clause-takes
unfolding body
returns-in_err-put_events-clause-takes g c settings clients start xs at =
    let s = g.W.Sink in
    let more = xs ++ c.args.run.now.samples in
    MatchResult-from_err c.from_residual.result _ _ c.from_residual.ensures.0 (λ _.
    stretch-part-told start (promised s c.args.out.now) (promised s c.put_events.new.out)
    (body_lines settings xs clients) (map line_of c.events.result.now)
    (answer_lines settings clients more) (body_lines settings more clients)
    (c.feed.ensures.told settings clients xs at.stands
    ∙ ap (λ r. body_lines settings xs clients ++ map line_of r
    ++ answer_lines settings clients more) (sym c.events.ensures))
    at.written c.in_err-put_events.ensures.adds)

pub returns-clause-takes : goal.returns-clause-takes
unfolding body
returns-clause-takes g c settings clients start xs at =
    let s = g.W.Sink in
    let more = xs ++ c.args.run.now.samples in
    stretch-taken settings clients start (promised s c.args.out.now)
    (promised s c.put_events.new.out) (promised s c.put_answers.new.out)
    c.put_answers.new.session xs more (map line_of c.events.result.now) c.put_answers.result
    (c.feed.ensures.told settings clients xs at.stands
    ∙ ap (λ r. body_lines settings xs clients ++ map line_of r
    ++ answer_lines settings clients more) (sym c.events.ensures))
    at.written c.in_ok-put_events.ensures.adds
    (c.put_answers.ensures.adds settings clients more (answer_lines settings clients more)
    (c.feed.ensures.stands settings clients xs at.stands))

pub returns-clause-writes : goal.returns-clause-writes
returns-clause-writes g c =
    writes-then g.W.Sink c.args.out.now c.put_events.new.out c.put_answers.new.out _
    c.put_answers.result c.in_ok-put_events.ensures.writes c.put_answers.ensures.writes
