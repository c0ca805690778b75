use Rattle.std.proofs.Common.{◌∙◌, sym, refl}
use Rattle.clap.specs.Matches.{found_of}
use Rattle.recordings.specs.Packers.{recipe_in}
use Rattle.devices.specs.Moments.{devices_at}
use Rattle.packer.proofs.AskedLemmas.{err_is, refused, packed}
use Rattle.packer.proofs.program.pack.Goals as goal

pub returns-in_err-stretch : goal.returns-in_err-stretch
returns-in_err-stretch g c = record {
  carries_out =
      refused (found_of c.args.matches.now)
      (devices_at g.R.Source g.W.Sink c.args.reader.now c.args.writer.now)
      c.in_ok-recipe.recipe c.from_residual-in_err-stretch.result c.in_err-stretch.field-0.0
      (err_is c.from_residual-in_err-stretch.result c.in_err-stretch.field-0.0
      c.from_residual-in_err-stretch.ensures.1) c.in_err-stretch.ensures.status
      c.in_ok-recipe.ensures.asked c.in_err-stretch.ensures.why;
}

pub returns-in_err-run : goal.returns-in_err-run
returns-in_err-run g c = let w = c.in_ok-stretch.ensures.asked in record {
  carries_out =
      packed (found_of c.args.matches.now) c.in_ok-recipe.recipe
      (recipe_in c.in_ok-packer.packer) w.0 w.1
      (devices_at g.R.Source g.W.Sink c.args.reader.now c.args.writer.now)
      (devices_at g.R.Source g.W.Sink c.run.new.reader c.run.new.writer)
      _ c.from_residual-in_err-run.result
      (err_is c.from_residual-in_err-run.result c.in_err-run.field-0.0
      c.from_residual-in_err-run.ensures.1)
      (sym c.is_measured.ensures ∙ c.if-is_measured.false) c.in_ok-recipe.ensures.asked w.2
      c.in_ok-packer.ensures.recipe c.in_err-run.ensures.which
      (λ all known. c.in_err-run.ensures.packs w.0 w.1 all known w.3
      c.in_ok-packer.ensures.stands);
}

pub returns : goal.returns
returns g c = let w = c.in_ok-stretch.ensures.asked in record {
  carries_out =
      packed (found_of c.args.matches.now) c.in_ok-recipe.recipe
      (recipe_in c.in_ok-packer.packer) w.0 w.1
      (devices_at g.R.Source g.W.Sink c.args.reader.now c.args.writer.now)
      (devices_at g.R.Source g.W.Sink c.run.new.reader c.run.new.writer)
      _ _ refl (sym c.is_measured.ensures ∙ c.if-is_measured.false)
      c.in_ok-recipe.ensures.asked w.2 c.in_ok-packer.ensures.recipe c.in_ok-run.ensures.which
      (λ all known. c.in_ok-run.ensures.packs w.0 w.1 all known w.3
      c.in_ok-packer.ensures.stands);
}
