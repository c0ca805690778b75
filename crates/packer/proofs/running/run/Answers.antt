use Rattle.std.proofs.Common.{◌≡◌, ap, take, drop, arith, ◌∙◌, refl, sym, subst, rules}
use Rattle.std.specs.Prelude.{Bool, Result, Ok, Err, IfErr}
use Rattle.std.proofs.lemmas.Grind.{common_steps}
use Rattle.recordings.specs.Packers.{recipe_in}
use Rattle.devices.specs.Calls.{ReportsFailure}
use Rattle.devices.specs.Moments.{Devices, devices_at}
use Rattle.packer.specs.Devices.{SaysWhich}
use Rattle.packer.specs.declared.failure.Failure.{Failure}
use Rattle.packer.specs.declared.failure.Failure.TheVariants.{Output}
use Rattle.packer.proofs.RunLemmas.{beginning, packs_without_memory, packs_at_error}
use Rattle.packer.proofs.RunLemmas.{packs_at_end}
use Rattle.packer.proofs.running.run.Goals as goal

abbrev error : Failure → Result (Unit {0}) Failure
error f = Err f

-- a flush fails of the writer alone
flushed : (old new : Devices) (before : Bool) (r : Result (Unit {0}) Failure)
    → new.read_failed ≡ old.read_failed → before ≡ old.write_failed
    → ReportsFailure before new.write_failed r → IfErr r (λ f. f ≡ Output) → SaysWhich old new r
flushed old new before (Ok done) read same reports fault = (read, reports ∙ same)
flushed old new before (Err e) read same reports fault =
    subst (λ (f : Failure). SaysWhich old new (error f)) (sym fault) (read, reports)

abbrev answer : Bool → Result Bool Failure
answer b = Ok b

pub returns-in_err-buffer-clause-packs : goal.returns-in_err-buffer-clause-packs
returns-in_err-buffer-clause-packs g c skip most all known shows stands =
    packs_without_memory (recipe_in c.args.packer.now) skip most all _ _ _ _ _
    c.from_residual.ensures.1
    (beginning (recipe_in c.args.packer.now) skip most all
    (g.R.Source.remaining c.args.reader.now) (g.W.Sink.contents c.args.writer.now)
    c.args.stretch.now c.args.packer.now known shows stands refl)

pub returns-in_err-written-clause-packs : goal.returns-in_err-written-clause-packs
returns-in_err-written-clause-packs g c skip most all known shows stands =
    packs_without_memory (recipe_in c.args.packer.now) skip most all _ _ _ _ _
    c.from_residual-in_err-written.ensures.1
    (beginning (recipe_in c.args.packer.now) skip most all
    (g.R.Source.remaining c.args.reader.now) (g.W.Sink.contents c.args.writer.now)
    c.args.stretch.now c.args.packer.now known shows stands refl)

pub returns-in_err-goes_on-clause-packs : goal.returns-in_err-goes_on-clause-packs
returns-in_err-goes_on-clause-packs g c skip most all known shows stands =
    packs_at_error (recipe_in c.args.packer.now) (take most (drop skip all))
    (g.W.Sink.contents c.args.writer.now) (g.W.Sink.contents c.step.new.writer)
    c.from_residual-in_err-goes_on.result c.in_err-goes_on.field-0.0
    c.from_residual-in_err-goes_on.ensures.1
    (c.in_err-goes_on.ensures.fails (recipe_in c.args.packer.now) skip most all
    (g.W.Sink.contents c.args.writer.now)
    (c.loop-written.invariant.course skip most all known shows stands))

pub loop-written-init : goal.loop-written-init
loop-written-init g c = record {
  room = search rules;
  none_failed = (refl, refl);
  course = λ skip most all known shows stands.
      beginning (recipe_in c.args.packer.now) skip most all
      (g.R.Source.remaining c.args.reader.now) (g.W.Sink.contents c.args.writer.now)
      c.args.stretch.now c.args.packer.now known shows stands refl;
}

pub loop-written-preserved : goal.loop-written-preserved
loop-written-preserved g c =
    let which = c.in_ok-goes_on.ensures.which in
    let before = c.loop-written.invariant.none_failed in
    record {
      room = grind (arith, common_steps);
      none_failed = (which.0 ∙ before.0, which.1 ∙ before.1);
      course = λ skip most all known shows stands.
          c.in_ok-goes_on.ensures.goes_on
          (ap (λ (b : Bool). answer b) c.if-not-goes_on.false)
          (recipe_in c.args.packer.now) skip most all
          (g.W.Sink.contents c.args.writer.now)
          (c.loop-written.invariant.course skip most all known shows stands);
    }

pub returns-then-not-goes_on-clause-packs : goal.returns-then-not-goes_on-clause-packs
returns-then-not-goes_on-clause-packs g c skip most all known shows stands =
    packs_at_end (recipe_in c.args.packer.now) (take most (drop skip all))
    (g.W.Sink.contents c.args.writer.now) (g.W.Sink.contents c.step.new.writer)
    (g.W.Sink.contents c.flush.new.writer) c.flush.result
    (c.in_ok-goes_on.ensures.ends (ap (λ (b : Bool). answer b) c.if-not-goes_on.true)
    (recipe_in c.args.packer.now) skip most all (g.W.Sink.contents c.args.writer.now)
    (c.loop-written.invariant.course skip most all known shows stands))
    c.flush.ensures.bytes c.flush.ensures.fault

pub returns-then-not-goes_on-clause-which : goal.returns-then-not-goes_on-clause-which
returns-then-not-goes_on-clause-which g c =
    let before = c.loop-written.invariant.none_failed in
    let stepped = c.in_ok-goes_on.ensures.which in
    flushed (devices_at g.R.Source g.W.Sink c.args.reader.now c.args.writer.now)
    (devices_at g.R.Source g.W.Sink c.step.new.reader c.flush.new.writer)
    (g.W.Sink.has_failed c.step.new.writer) c.flush.result (stepped.0 ∙ before.0)
    (stepped.1 ∙ before.1) c.flush.ensures.failure c.flush.ensures.fault
