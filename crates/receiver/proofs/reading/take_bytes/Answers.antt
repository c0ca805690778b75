use Rattle.std.proofs.Common.{◌≡◌, ◌∙◌, ◌++◌, ◌+◌, ◌-◌, ◌/◌, List, length, min, ap, subst}
use Rattle.std.proofs.lemmas.Result.{MatchResult-from_err}
use Rattle.definitions.specs.Samples.{Sample, samples_per_byte}
use Rattle.definitions.specs.Receiver.{body}
use Rattle.receiver.specs.Outputs.{promised}
use Rattle.receiver.specs.Runs.{IsWrittenTo}
use Rattle.receiver.specs.Texts.{AppendsPart}
use Rattle.receiver.specs.Sessions.{packing_in, time_of}
use Rattle.receiver.proofs.ReadLemmas.{left-past, taken-before, time-before}
use Rattle.receiver.proofs.reading.take_bytes.Goals as goal

pub returns-in_err-take_piece-clause-takes : goal.returns-in_err-take_piece-clause-takes
returns-in_err-take_piece-clause-takes g c settings clients start xs at =
    let before =
    taken-before c.args.session.now c.args.limit c.args.bytes.now _ c.time.result
    c.per_byte.result c.min-used.result c.new-piece.ensures.samples c.format-format.ensures
    c.time.ensures c.per_byte.ensures c.requires.whole c.min-used.ensures in
    MatchResult-from_err c.from_residual.result _ _ c.from_residual.ensures.0 (λ _.
    subst (λ (run : List Sample). AppendsPart start (promised g.W.Sink c.take_piece.new.out)
    (body settings (xs ++ run) clients)) before
    (c.in_err-take_piece.ensures.takes settings clients start xs at))

pub returns-clause-takes : goal.returns-clause-takes
returns-clause-takes g c settings clients start xs at =
    let before =
    taken-before c.args.session.now c.args.limit c.args.bytes.now _ c.time.result
    c.per_byte.result c.min-used.result c.new-piece.ensures.samples c.format-format.ensures
    c.time.ensures c.per_byte.ensures c.requires.whole c.min-used.ensures in
    subst (λ (run : List Sample). IsWrittenTo settings clients start c.take_piece.new.session
    (promised g.W.Sink c.take_piece.new.out) (xs ++ run)) before
    (c.in_ok-take_piece.ensures.takes settings clients start xs at)

pub returns-in_err-take_piece-clause-time : goal.returns-in_err-take_piece-clause-time
returns-in_err-take_piece-clause-time g c =
    MatchResult-from_err c.from_residual.result _ _ c.from_residual.ensures.0 (λ _. tt)

pub returns-in_err-take_piece-clause-ready : goal.returns-in_err-take_piece-clause-ready
returns-in_err-take_piece-clause-ready g c =
    MatchResult-from_err c.from_residual.result _ _ c.from_residual.ensures.0 (λ _. tt)

pub returns-in_err-take_piece-clause-past : goal.returns-in_err-take_piece-clause-past
returns-in_err-take_piece-clause-past g c =
    MatchResult-from_err c.from_residual.result _ _ c.from_residual.ensures.0 (λ _. tt)

pub returns-clause-time : goal.returns-clause-time
returns-clause-time g c =
    let before =
    taken-before c.args.session.now c.args.limit c.args.bytes.now _ c.time.result
    c.per_byte.result c.min-used.result c.new-piece.ensures.samples c.format-format.ensures
    c.time.ensures c.per_byte.ensures c.requires.whole c.min-used.ensures in
    c.in_ok-take_piece.ensures.time
    ∙ ap (λ (run : List Sample). time_of c.args.session.now + length run) before
    ∙ time-before c.args.session.now c.args.limit c.args.bytes.now c.requires.within

pub returns-clause-past : goal.returns-clause-past
returns-clause-past g c =
    let used : c.min-used.result ≡ min (length c.args.bytes.now)
    ((c.args.limit - time_of c.args.session.now)
    / samples_per_byte (packing_in c.args.session.now)) =
    rw (c.time.ensures, c.per_byte.ensures, c.format-format.ensures) at c.min-used.ensures in
    left-past (packing_in c.args.session.now) (time_of c.args.session.now) c.args.limit
    (length c.args.bytes.now) c.min-used.result c.requires.within c.requires.whole used
