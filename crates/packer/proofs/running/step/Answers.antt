use Rattle.std.proofs.Common.{◌≡◌, ◌∙◌, ℕ, List, true, false, length, take, sym, ap}
use Rattle.std.proofs.Common.{arith}
use Rattle.std.specs.Prelude.{Err}
use Rattle.std.proofs.KnownBytes.{Keeps-refl}
use Rattle.std.proofs.lemmas.List.{length-take-le}
use Rattle.packer.specs.declared.failure.Failure.TheVariants.{Input, NotANumber}
use Rattle.packer.proofs.NumberLemmas.{none_in_stretch}
use Rattle.packer.proofs.RunLemmas.{ends-over, one_more, broken, same_fault, fewer_ahead}
use Rattle.packer.proofs.RunLemmas.{front_of_course, front_of_more}
use Rattle.packer.proofs.running.step.Goals as goal

pub returns-then-is_over-clause-ends : goal.returns-then-is_over-clause-ends
returns-then-is_over-clause-ends g c ok recipe skip most all start course =
    ends-over recipe skip most all start (g.R.Source.remaining c.args.reader.now)
    (g.W.Sink.contents c.args.writer.now) c.args.stretch.now c.args.packer.now course
    (c.is_over.ensures.0 c.if-is_over.true)

pub returns-in_err-count-clause-fails : goal.returns-in_err-count-clause-fails
returns-in_err-count-clause-fails g c =
    broken c.from_residual.result c.in_err-count.field-0.0 _ c.from_residual.ensures.1
    (λ recipe skip most all start course. record {
      front =
          front_of_course recipe skip most all start (g.R.Source.remaining c.args.reader.now)
          (g.W.Sink.contents c.args.writer.now) _ c.args.stretch.now c.args.packer.now course
          (Keeps-refl (g.W.Sink.contents c.args.writer.now));
      number = λ e numbers.
          let clash : Input ≡ NotANumber = sym c.in_err-count.ensures.fault ∙ e in cc;
    })

pub returns-in_err-take-clause-fails : goal.returns-in_err-take-clause-fails
returns-in_err-take-clause-fails g c =
    broken c.from_residual-in_err-take.result _ _ c.from_residual-in_err-take.ensures.1
    (λ recipe skip most all start course. record {
      front =
          front_of_course recipe skip most all start (g.R.Source.remaining c.args.reader.now)
          (g.W.Sink.contents c.args.writer.now) _ c.args.stretch.now c.args.packer.now course
          (Keeps-refl (g.W.Sink.contents c.args.writer.now));
      number = λ e.
          none_in_stretch recipe skip most all start
          (g.R.Source.remaining c.args.reader.now)
          (g.R.Source.remaining c.read.new.reader)
          (g.W.Sink.contents c.args.writer.now) c.args.stretch.now c.part.new.self
          c.args.packer.now (take c.in_ok-count.count c.read.new.buffer) c.part.result.now course
          c.in_ok-count.ensures.bytes.0 (c.part.ensures.shows skip most)
          (c.in_err-take.ensures.fault
          (ap Err (same_fault c.in_err-take.field-0.0 e)));
    })

pub returns-in-Ok-clause-fewer : goal.returns-in-Ok-clause-fewer
returns-in-Ok-clause-fewer g c ok =
    let piece : List ℕ = take c.in_ok-count.count c.read.new.buffer in
    let sized : length piece ≡ c.in_ok-count.count =
    length-take-le c.in_ok-count.count c.read.new.buffer c.in_ok-count.ensures.bound.0 in
    fewer_ahead c.args.stretch.now c.part.new.self piece c.part.result.now
    (omega (arith, sized, c.if-count-eq0.false))
    (λ e. let clash : true ≡ false = sym (c.is_over.ensures.1 e) ∙ c.if-is_over.false in cc)
    c.part.ensures.shows

pub returns-in-Ok-clause-goes_on : goal.returns-in-Ok-clause-goes_on
returns-in-Ok-clause-goes_on g c ok recipe skip most all start course =
    one_more recipe skip most all start (g.R.Source.remaining c.args.reader.now)
    (g.R.Source.remaining c.read.new.reader) (g.W.Sink.contents c.args.writer.now)
    (g.W.Sink.contents c.write_all.new.writer) c.args.stretch.now c.part.new.self
    c.args.packer.now c.take.new.self (take c.in_ok-count.count c.read.new.buffer)
    c.part.result.now c.take.new.written.items course c.in_ok-count.ensures.bytes.0
    (c.part.ensures.shows skip most) c.in_ok-take.ensures.stands c.in_ok-take.ensures.recipe
    (rw c.deref.ensures.value at c.in-Ok.ensures.ok)

pub returns-in-Err-clause-fails : goal.returns-in-Err-clause-fails
returns-in-Err-clause-fails g c recipe skip most all start course = record {
  front =
      front_of_more recipe skip most all start (g.R.Source.remaining c.args.reader.now)
      (g.R.Source.remaining c.read.new.reader) (g.W.Sink.contents c.args.writer.now)
      (g.W.Sink.contents c.write_all.new.writer) c.args.stretch.now c.part.new.self
      c.args.packer.now c.take.new.self (take c.in_ok-count.count c.read.new.buffer)
      c.part.result.now c.take.new.written.items course c.in_ok-count.ensures.bytes.0
      (c.part.ensures.shows skip most) c.in_ok-take.ensures.stands c.in_ok-take.ensures.recipe
      (rw c.deref.ensures.value at c.in-Err.ensures.err);
  number = λ e numbers. cc;
}
