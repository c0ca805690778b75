use Rattle.std.proofs.Common.{◌∙◌, sym, ap, subst, rules, w32, FitsSigned}
use Rattle.std.proofs.lemmas.Int.{to_z-of_z}
use Rattle.std.specs.Result.{result_ok}
use Rattle.clap.specs.Matches.{found_of}
use Rattle.recordings.specs.declared.value_kind.ValueKind.{ValueKind}
use Rattle.packer.specs.Options.{HasCentres}
use Rattle.packer.proofs.AskedLemmas.{no_threshold}
use Rattle.packer.proofs.DeviceLemmas.{on_err}
use Rattle.packer.proofs.options.choice.Goals as goal

pub returns-in_err-centre-clause-why : goal.returns-in_err-centre-clause-why
returns-in_err-centre-clause-why c =
    on_err c.from_residual-in_err-centre.result _ (λ choice asks.
    c.in_err-centre.ensures.why choice.centre choice.centre_q
    (subst (λ (k : ValueKind).
    HasCentres (found_of c.args.matches.now) k choice.centre choice.centre_q)
    (asks.kind ∙ sym c.from-is_paired.ensures.kind) asks.centres))

pub returns-in_err-threshold-clause-why : goal.returns-in_err-threshold-clause-why
returns-in_err-threshold-clause-why c =
    on_err c.from_residual-in_err-threshold.result _ (λ choice asks.
    no_threshold (found_of c.args.matches.now) choice c.from-is_paired.result.1
    c.from-is_paired.result.0 c.in_ok-format.format asks c.from-is_paired.ensures.kind
    c.from-is_paired.ensures.pairs
    (sym (ap result_ok c.in_ok-format.was) ∙ c.format.ensures.value)
    (sym (ap result_ok c.in_err-threshold.was) ∙ c.threshold.ensures.value))

pub returns-clause-asked : goal.returns-clause-asked
returns-clause-asked c = record {
  kind = c.from-is_paired.ensures.kind;
  is_paired = c.from-is_paired.ensures.pairs;
  format = sym c.format.ensures.value ∙ ap result_ok c.in_ok-format.was;
  centres =
      let i : FitsSigned w32 c.in_ok-centre.centre = search rules in
      let q : FitsSigned w32 c.in_ok-centre.centre_q = search rules in
      rw (to_z-of_z w32 c.in_ok-centre.centre i, to_z-of_z w32 c.in_ok-centre.centre_q q)
      c.in_ok-centre.ensures.asked;
  threshold = sym c.threshold.ensures.value ∙ ap result_ok c.in_ok-threshold.was;
  is_swapped = c.is_set.ensures;
  is_conjugate = c.is_set-2.ensures;
  takes_quadrature = c.takes_quadrature.ensures;
}
