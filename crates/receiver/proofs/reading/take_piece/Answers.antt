use Rattle.std.proofs.Common.{◌≡◌, ◌∙◌, ℕ, ◌+◌, ◌≤◌, List, ◌++◌, length, take, drop, ap, sym}
use Rattle.std.proofs.Common.{subst, append-nil, append_assoc, arith, refl}
use Rattle.std.proofs.lemmas.List.{take-append-drop, length-drop, length-take-le}
use Rattle.std.proofs.lemmas.Result.{MatchResult-from_err}
use Rattle.sample_planes.specs.PackedRuns.{PackedRun, front_of, back_of}
use Rattle.definitions.specs.Samples.{Sample}
use Rattle.channel_slots.proofs.TellingLemmas.{take_part}
use Rattle.receiver.specs.Runs.{IsWrittenTo}
use Rattle.receiver.proofs.PartLemmas.{body-part-longer}
use Rattle.receiver.specs.Sessions.{time_of}
use Rattle.receiver.specs.Outputs.{promised}
use Rattle.receiver.proofs.OutputLemmas.{nothing-written, wrote-then, writes-broke}
use Rattle.receiver.proofs.reading.take_piece.Goals as goal

same-samples : (r s : PackedRun) → r ≡ s → r.samples ≡ s.samples
same-samples r s e = ap (λ (t : PackedRun). t.samples) e

-- a part has as many samples as were wanted
part-many : (part run : PackedRun) (first len : ℕ) → part ≡ front_of len (back_of first run)
    → first + len ≤ length run.samples → length part.samples ≡ len
part-many part run first len e within =
    ap length (same-samples part _ e)
    ∙ length-take-le len (drop first run.samples) (rw length-drop (omega (arith, within)))

-- a part of the piece after those before it
behind : (xs piece : List Sample) (n m : ℕ)
    → (xs ++ take n piece) ++ take m (drop n piece) ≡ xs ++ take (n + m) piece
behind xs piece n m =
    append_assoc xs (take n piece) (take m (drop n piece))
    ∙ ap (λ (l : List Sample). xs ++ l) (sym (take_part piece n m))

-- and the rest of it after that part
all-of : (xs piece : List Sample) (n : ℕ) → (xs ++ take n piece) ++ drop n piece ≡ xs ++ piece
all-of xs piece n =
    append_assoc xs (take n piece) (drop n piece)
    ∙ ap (λ (l : List Sample). xs ++ l) (take-append-drop n piece)

pub returns-in_err-take_samples-clause-takes : goal.returns-in_err-take_samples-clause-takes
returns-in_err-take_samples-clause-takes g c settings clients start xs at =
    let piece = c.args.piece.now.samples in
    let first = c.loop-first.first in
    let next : ℕ = first + c.min-len.result in
    MatchResult-from_err c.from_residual.result _ _ c.from_residual.ensures.0 (λ _.
    body-part-longer settings clients start (promised g.W.Sink c.take_samples.new.out)
    ((xs ++ take first piece) ++ c.part.result.samples) (drop next piece) (xs ++ piece)
    (ap (λ (l : List Sample). ((xs ++ take first piece) ++ l) ++ drop next piece)
    (same-samples c.part.result _ c.part.ensures)
    ∙ ap (λ (l : List Sample). l ++ drop next piece) (behind xs piece first c.min-len.result)
    ∙ all-of xs piece next)
    (c.in_err-take_samples.ensures.takes settings clients start (xs ++ take first piece)
    (c.loop-first.invariant.written settings clients start xs at)))

pub loop-first-init : goal.loop-first-init
loop-first-init g c = record {
  within = omega arith;
  format = refl;
  time = omega arith;
  ready = c.requires.ready;
  wrote = nothing-written g.W.Sink c.args.out.now;
  written = λ settings clients start xs at. rw append-nil at;
}

pub loop-first-preserved : goal.loop-first-preserved
loop-first-preserved g c =
    let s = g.W.Sink in
    let i = c.loop-first.invariant in
    let e = c.in_ok-take_samples.ensures in
    let piece = c.args.piece.now.samples in
    let first = c.loop-first.first in
    let len = c.min-len.result in
    let within : first + len ≤ length piece =
    omega (arith, c.len-count.ensures, c.min-most.ensures, c.min-len.ensures) in
    let many : length c.part.result.samples ≡ len =
    part-many c.part.result c.args.piece.now first len c.part.ensures within in
    let more : time_of c.take_samples.new.session
    ≡ time_of c.loop-first.session + length c.part.result.samples = e.time in
    record {
      within = omega (arith, within, c.len-count.ensures);
      format = e.packing ∙ i.format;
      time = omega (arith, more, many, i.time);
      ready = e.ready;
      wrote = wrote-then s c.args.out.now c.loop-first.out c.take_samples.new.out _ i.wrote
          e.writes;
      written = λ settings clients start xs at.
          subst (IsWrittenTo settings clients start c.take_samples.new.session
          (promised s c.take_samples.new.out))
          (ap (λ (l : List Sample). (xs ++ take first piece) ++ l)
          (same-samples c.part.result _ c.part.ensures)
          ∙ behind xs piece first len)
          (e.takes settings clients start (xs ++ take first piece)
          (i.written settings clients start xs at));
    }

pub returns-in_err-take_samples-clause-writes : goal.returns-in_err-take_samples-clause-writes
returns-in_err-take_samples-clause-writes g c =
    writes-broke g.W.Sink c.args.out.now c.loop-first.out c.take_samples.new.out _
    c.from_residual.result c.loop-first.invariant.wrote c.in_err-take_samples.ensures.writes
    c.from_residual.ensures.0

pub returns-clause-writes : goal.returns-clause-writes
returns-clause-writes g c = let w = c.loop-first.invariant.wrote in
    record { same = w.same; grows = w.grows; failure = w.failure }

pub part-requires : goal.part-requires
part-requires g c =
    omega (arith, c.len-count.ensures, c.min-most.ensures, c.min-len.ensures)

pub take_samples-requires-clause-some : goal.take_samples-requires-clause-some
take_samples-requires-clause-some g c =
    let within : c.loop-first.first + c.min-len.result ≤ length c.args.piece.now.samples =
    omega (arith, c.len-count.ensures, c.min-most.ensures, c.min-len.ensures) in
    let many : length c.part.result.samples ≡ c.min-len.result =
    part-many c.part.result c.args.piece.now c.loop-first.first c.min-len.result c.part.ensures
    within in
    omega (
      arith,
      many,
      c.min-len.ensures,
      c.min-most.ensures,
      c.until_next.ensures,
      c.loop-first-test.true,
      c.loop-first.invariant.ready,
    )

pub take_samples-requires-clause-short : goal.take_samples-requires-clause-short
take_samples-requires-clause-short g c =
    let within : c.loop-first.first + c.min-len.result ≤ length c.args.piece.now.samples =
    omega (arith, c.len-count.ensures, c.min-most.ensures, c.min-len.ensures) in
    let many : length c.part.result.samples ≡ c.min-len.result =
    part-many c.part.result c.args.piece.now c.loop-first.first c.min-len.result c.part.ensures
    within in
    omega (arith, many, c.min-len.ensures, c.min-most.ensures)

pub take_samples-requires-clause-quiet : goal.take_samples-requires-clause-quiet
take_samples-requires-clause-quiet g c =
    let within : c.loop-first.first + c.min-len.result ≤ length c.args.piece.now.samples =
    omega (arith, c.len-count.ensures, c.min-most.ensures, c.min-len.ensures) in
    let many : length c.part.result.samples ≡ c.min-len.result =
    part-many c.part.result c.args.piece.now c.loop-first.first c.min-len.result c.part.ensures
    within in
    omega (arith, many, c.min-len.ensures, c.until_next.ensures)

pub take_samples-requires-clause-room : goal.take_samples-requires-clause-room
take_samples-requires-clause-room g c =
    let within : c.loop-first.first + c.min-len.result ≤ length c.args.piece.now.samples =
    omega (arith, c.len-count.ensures, c.min-most.ensures, c.min-len.ensures) in
    let many : length c.part.result.samples ≡ c.min-len.result =
    part-many c.part.result c.args.piece.now c.loop-first.first c.min-len.result c.part.ensures
    within in
    omega (arith, many, within, c.loop-first.invariant.time, c.requires.room)
