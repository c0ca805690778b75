use Rattle.std.proofs.Common.{ap, sym, ◌∙◌, ◌+◌, ◌++◌, ℕ, List, drop}
use Rattle.std.specs.Prelude.{map}
use Rattle.definitions.specs.Lines.{as_bytes, ended_line}
use Rattle.slot_protocol.specs.declared.event.SlotEvent.{SlotEvent}
use Rattle.slot_protocol.specs.Events.{line_of}
use Rattle.receiver.specs.Outputs.{promised}
use Rattle.receiver.proofs.TextLemmas.{wrote-all}
use Rattle.receiver.proofs.AnswerLemmas.{events-next, events-done}
use Rattle.receiver.proofs.OutputLemmas.{put-none, put-more, put-broke, writes-broke}
use Rattle.receiver.proofs.writing.put_events.Goals as goal

abbrev left-after : List SlotEvent → ℕ → List ℕ
left-after events i = as_bytes (map line_of (drop i events))

pub loop-event-init : goal.loop-event-init
loop-event-init g c = put-none g.W.Sink c.args.out.now (as_bytes (map line_of c.args.events.now))

pub loop-event-preserved : goal.loop-event-preserved
loop-event-preserved g c =
    let events = c.args.events.now in
    let i = c.loop-event.event-index in
    let line = ap (λ (event : SlotEvent). ended_line (line_of event)) c.event-item.is in
    put-more g.W.Sink c.args.out.now c.loop-event.out c.put_event.new.out _ (left-after events i)
    (ended_line (line_of c.event-item.result)) (left-after events (i + 1)) _
    c.loop-event.invariant
    (events-next events i c.event-item.result c.loop-event-test.true
    ∙ ap (λ l. l ++ left-after events (i + 1)) (sym line))
    c.in_ok-put_event.ensures.puts c.in_ok-put_event.ensures.writes

pub returns-in_err-put_event-clause-adds : goal.returns-in_err-put_event-clause-adds
returns-in_err-put_event-clause-adds g c =
    let events = c.args.events.now in
    let i = c.loop-event.event-index in
    let line = ap (λ (event : SlotEvent). ended_line (line_of event)) c.event-item.is in
    put-broke g.W.Sink c.args.out.now c.loop-event.out c.put_event.new.out _
    (left-after events i) (ended_line (line_of c.event-item.result)) (left-after events (i + 1))
    c.from_residual.result c.loop-event.invariant
    (events-next events i c.event-item.result c.loop-event-test.true
    ∙ ap (λ l. l ++ left-after events (i + 1)) (sym line))
    c.in_err-put_event.ensures.puts c.from_residual.ensures.0

pub returns-in_err-put_event-clause-writes : goal.returns-in_err-put_event-clause-writes
returns-in_err-put_event-clause-writes g c =
    writes-broke g.W.Sink c.args.out.now c.loop-event.out c.put_event.new.out _
    c.from_residual.result c.loop-event.invariant.wrote c.in_err-put_event.ensures.writes
    c.from_residual.ensures.0

pub returns-clause-adds : goal.returns-clause-adds
returns-clause-adds g c =
    let i = c.loop-event.event-index in
    wrote-all (promised g.W.Sink c.args.out.now) (promised g.W.Sink c.loop-event.out) _
    (left-after c.args.events.now i) (events-done c.args.events.now i c.loop-event-test.false)
    c.loop-event.invariant.up_to

pub returns-clause-writes : goal.returns-clause-writes
returns-clause-writes g c = let w = c.loop-event.invariant.wrote in
    record { same = w.same; grows = w.grows; failure = w.failure }
