use Rattle.std.proofs.Common.{append-nil, ◌≡◌, ◌∙◌, ℕ, ◌≤◌, List, ◌++◌}
use Rattle.std.proofs.Common.{take, ap, sym, refl, [], subst, arith, Ok, Err}
use Rattle.std.specs.Io.KnownBytes.{Consumes}
use Rattle.std.proofs.Math.Nat.{min-le_left}
use Rattle.std.proofs.lemmas.Result.{MatchResult-from_err}
use Rattle.std.proofs.KnownBytes.{Consumes-trans, Consumes-kept, Consumes-nil}
use Rattle.receiver.specs.Runs.{IsWrittenTo}
use Rattle.receiver.specs.Outputs.{promised}
use Rattle.receiver.specs.Sessions.{packing_in}
use Rattle.receiver.proofs.TextLemmas.{appended-part}
use Rattle.receiver.proofs.ReadLemmas.{asked-once, beyond-limit, none_counted, none-given}
use Rattle.receiver.proofs.ReadLemmas.{some-given, still-written, time-on, took-on, whole-left}
use Rattle.receiver.proofs.ReadLemmas.{within-limit}
use Rattle.receiver.proofs.RunLemmas.{none-read}
use Rattle.receiver.proofs.OutputLemmas.{nothing-written, wrote-then, writes-broke, writes-ok}
use Rattle.receiver.proofs.reading.read_all.Goals as goal

pub loop-reader-init : goal.loop-reader-init
loop-reader-init g c =
    let promise = promised g.W.Sink c.args.out.now in
    record {
      format = refl;
      ready = c.requires.ready;
      asked_again = λ sound. refl;
      wrote = nothing-written g.W.Sink c.args.out.now;
      taken = record {
        read = [];
        consumed = Consumes-nil (g.R.Source.remaining c.args.reader.now);
        ended = (refl, refl);
        time = c.requires.start ∙ none_counted (packing_in c.args.session.now);
        within = omega (arith, c.requires.start);
        at = λ settings clients start at.
            subst (IsWrittenTo settings clients start c.args.session.now promise)
            (none-read settings c.args.limit) at;
      };
    }

pub loop-reader-preserved : goal.loop-reader-preserved
loop-reader-preserved g c =
    let s = g.W.Sink in let r = g.R.Source in let i = c.loop-reader.invariant in
    let e = c.in_ok-take_bytes.ensures in
    let was = i.taken in
    let bytes : List ℕ = take c.in-Ok.count c.read.new.buffer in
    record {
      format = e.packing ∙ i.format;
      ready = e.ready;
      asked_again = λ sound.
          asked-once (i.asked_again sound) (was.ended.1 ∙ sound) c.in-Ok.ensures.again;
      wrote = wrote-then s c.args.out.now c.send.new.self c.take_bytes.new.out _
          (wrote-then s c.args.out.now c.loop-reader.out c.send.new.self _ i.wrote
          c.in_ok-send.ensures.writes) e.writes;
      taken = record {
        read = was.read ++ bytes;
        consumed =
            Consumes-trans (r.remaining c.args.reader.now) (r.remaining c.loop-reader.reader)
            (r.remaining c.read.new.self) was.read bytes was.consumed c.in-Ok.ensures.bytes.0;
        ended = (
          some-given c.in-Ok.count c.if-count-eq0.false c.in-Ok.ensures.end ∙ was.ended.0,
          c.in-Ok.ensures.failure ∙ was.ended.1,
        );
        time =
            time-on c.loop-reader.session c.take_bytes.new.session c.args.limit was.read bytes _
            was.time e.packing e.time e.past c.if-branch.false;
        within = subst (λ t. t ≤ c.args.limit) (sym e.time) (min-le_left _ _);
        at = λ settings clients start at.
            took-on was settings clients start at {A = ℕ} {E = ℕ} c.take_bytes.new.session
            (promised s c.send.new.self) (promised s c.take_bytes.new.out) bytes (Ok 0)
            c.send.ensures.kept e.takes;
      };
    }

pub returns-in_err-send-clause-reads : goal.returns-in_err-send-clause-reads
returns-in_err-send-clause-reads g c settings clients start at =
    let was = c.loop-reader.invariant.taken in
    MatchResult-from_err c.from_residual.result _ _ c.from_residual.ensures.0 (λ _. record {
      read = was.read;
      consumed = was.consumed;
      ended = was.ended;
      written =
          appended-part start _ _ _ (was.at settings clients start at).written
          c.send.ensures.kept;
    })

pub returns-in_default-clause-reads : goal.returns-in_default-clause-reads
returns-in_default-clause-reads g c settings clients start at =
    let r = g.R.Source in
    let was = c.loop-reader.invariant.taken in
    record {
      read = was.read;
      consumed =
          Consumes-kept (r.remaining c.args.reader.now) (r.remaining c.loop-reader.reader)
          (r.remaining c.read.new.self) was.read was.consumed c.in_default.ensures.bytes;
      why = (
        (c.in_default.ensures.end ∙ was.ended.0, c.in_default.ensures.failure),
        within-limit was settings clients start at,
      );
      at = still-written was settings clients start at (promised g.W.Sink c.send.new.self)
          c.send.ensures.kept;
    }

pub returns-then-count-eq0-clause-reads : goal.returns-then-count-eq0-clause-reads
returns-then-count-eq0-clause-reads g c settings clients start at =
    let was = c.loop-reader.invariant.taken in
    let buffer = c.read.new.buffer in
    let none : was.read ++ take c.in-Ok.count buffer ≡ was.read =
    ap (λ k. was.read ++ take k buffer) c.if-count-eq0.true ∙ append-nil was.read in
    let a = g.R.Source.remaining c.args.reader.now in
    let d = g.R.Source.remaining c.read.new.self in
    record {
      read = was.read;
      consumed =
          subst (Consumes a d) none
          (Consumes-trans a (g.R.Source.remaining c.loop-reader.reader) d was.read
          (take c.in-Ok.count buffer) was.consumed c.in-Ok.ensures.bytes.0);
      why = (
        (
          c.in-Ok.ensures.bytes.1 c.if-count-eq0.true (omega arith),
          none-given c.in-Ok.count _ c.if-count-eq0.true c.in-Ok.ensures.end,
          c.in-Ok.ensures.failure ∙ was.ended.1,
        ),
        within-limit was settings clients start at,
      );
      at = still-written was settings clients start at (promised g.W.Sink c.send.new.self)
          c.send.ensures.kept;
    }

pub returns-in_err-take_bytes-clause-reads : goal.returns-in_err-take_bytes-clause-reads
returns-in_err-take_bytes-clause-reads g c settings clients start at =
    let s = g.W.Sink in let r = g.R.Source in
    let was = c.loop-reader.invariant.taken in
    let bytes : List ℕ = take c.in-Ok.count c.read.new.buffer in
    MatchResult-from_err c.from_residual-in_err-take_bytes.result _ _
    c.from_residual-in_err-take_bytes.ensures.0 (λ _. record {
      read = was.read ++ bytes;
      consumed =
          Consumes-trans (r.remaining c.args.reader.now) (r.remaining c.loop-reader.reader)
          (r.remaining c.read.new.self) was.read bytes was.consumed c.in-Ok.ensures.bytes.0;
      ended = (
        some-given c.in-Ok.count c.if-count-eq0.false c.in-Ok.ensures.end ∙ was.ended.0,
        c.in-Ok.ensures.failure ∙ was.ended.1,
      );
      written =
          took-on was settings clients start at {A = ℕ} {E = ℕ} c.take_bytes.new.session
          (promised s c.send.new.self) (promised s c.take_bytes.new.out) bytes (Err 0)
          c.send.ensures.kept c.in_err-take_bytes.ensures.takes;
    })

pub returns-then-branch-clause-reads : goal.returns-then-branch-clause-reads
returns-then-branch-clause-reads g c settings clients start at =
    let s = g.W.Sink in let r = g.R.Source in
    let e = c.in_ok-take_bytes.ensures in
    let was = c.loop-reader.invariant.taken in
    let bytes : List ℕ = take c.in-Ok.count c.read.new.buffer in
    record {
      read = was.read ++ bytes;
      consumed =
          Consumes-trans (r.remaining c.args.reader.now) (r.remaining c.loop-reader.reader)
          (r.remaining c.read.new.self) was.read bytes was.consumed c.in-Ok.ensures.bytes.0;
      why = (
        (
          some-given c.in-Ok.count c.if-count-eq0.false c.in-Ok.ensures.end ∙ was.ended.0,
          c.in-Ok.ensures.failure ∙ was.ended.1,
        ),
        beyond-limit was settings clients start at bytes (e.past.0 c.if-branch.true),
      );
      at =
          took-on was settings clients start at {A = ℕ} {E = ℕ} c.take_bytes.new.session
          (promised s c.send.new.self) (promised s c.take_bytes.new.out) bytes (Ok 0)
          c.send.ensures.kept e.takes;
    }

pub take_bytes-requires-clause-whole : goal.take_bytes-requires-clause-whole
take_bytes-requires-clause-whole g c =
    let was = c.loop-reader.invariant.taken in
    whole-left (packing_in c.loop-reader.session) was.read c.args.limit _ c.requires.whole was.time

pub returns-in_default-clause-once : goal.returns-in_default-clause-once
returns-in_default-clause-once g c =
    let i = c.loop-reader.invariant in
    λ sound. asked-once (i.asked_again sound) (i.taken.ended.1 ∙ sound) c.in_default.ensures.again

pub returns-then-count-eq0-clause-once : goal.returns-then-count-eq0-clause-once
returns-then-count-eq0-clause-once g c =
    let i = c.loop-reader.invariant in
    λ sound. asked-once (i.asked_again sound) (i.taken.ended.1 ∙ sound) c.in-Ok.ensures.again

pub returns-in_err-take_bytes-clause-once : goal.returns-in_err-take_bytes-clause-once
returns-in_err-take_bytes-clause-once g c =
    let i = c.loop-reader.invariant in
    λ sound. asked-once (i.asked_again sound) (i.taken.ended.1 ∙ sound) c.in-Ok.ensures.again

pub returns-then-branch-clause-once : goal.returns-then-branch-clause-once
returns-then-branch-clause-once g c =
    let i = c.loop-reader.invariant in
    λ sound. asked-once (i.asked_again sound) (i.taken.ended.1 ∙ sound) c.in-Ok.ensures.again

pub returns-in_err-send-clause-writes : goal.returns-in_err-send-clause-writes
returns-in_err-send-clause-writes g c =
    writes-broke g.W.Sink c.args.out.now c.loop-reader.out c.send.new.self _ c.from_residual.result
    c.loop-reader.invariant.wrote c.in_err-send.ensures.writes c.from_residual.ensures.0

pub returns-in_default-clause-writes : goal.returns-in_default-clause-writes
returns-in_default-clause-writes g c = let s = g.W.Sink in
    writes-ok s c.args.out.now c.send.new.self _
    (wrote-then s c.args.out.now c.loop-reader.out c.send.new.self _ c.loop-reader.invariant.wrote
    c.in_ok-send.ensures.writes)

pub returns-then-count-eq0-clause-writes : goal.returns-then-count-eq0-clause-writes
returns-then-count-eq0-clause-writes g c = let s = g.W.Sink in
    writes-ok s c.args.out.now c.send.new.self _
    (wrote-then s c.args.out.now c.loop-reader.out c.send.new.self _ c.loop-reader.invariant.wrote
    c.in_ok-send.ensures.writes)

pub returns-in_err-take_bytes-clause-writes : goal.returns-in_err-take_bytes-clause-writes
returns-in_err-take_bytes-clause-writes g c = let s = g.W.Sink in
    writes-broke s c.args.out.now c.send.new.self c.take_bytes.new.out _
    c.from_residual-in_err-take_bytes.result
    (wrote-then s c.args.out.now c.loop-reader.out c.send.new.self _ c.loop-reader.invariant.wrote
    c.in_ok-send.ensures.writes) c.in_err-take_bytes.ensures.writes
    c.from_residual-in_err-take_bytes.ensures.0

pub returns-then-branch-clause-writes : goal.returns-then-branch-clause-writes
returns-then-branch-clause-writes g c = let s = g.W.Sink in
    writes-ok s c.args.out.now c.take_bytes.new.out _
    (wrote-then s c.args.out.now c.send.new.self c.take_bytes.new.out _
    (wrote-then s c.args.out.now c.loop-reader.out c.send.new.self _ c.loop-reader.invariant.wrote
    c.in_ok-send.ensures.writes) c.in_ok-take_bytes.ensures.writes)
