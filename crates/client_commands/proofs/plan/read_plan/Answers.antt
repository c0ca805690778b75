use Rattle.std.proofs.Common.{rules, w32, FitsSigned, refl}
use Rattle.std.proofs.lemmas.Int.{to_z-of_z}
use Rattle.definitions.specs.Scripts.{values_in}
use Rattle.client_commands.specs.declared.refusal.LineRefusal.TheVariants.{OutOfRange}
use Rattle.client_commands.proofs.PlanLemmas.{in_range_is_plan}
use Rattle.client_commands.proofs.ReadingLemmas.{passed_on}
use Rattle.client_commands.proofs.plan.read_plan.Goals as goal

pub returns-in_err-prn : goal.returns-in_err-prn
returns-in_err-prn c = rw (passed_on _ c.from_residual.ensures.1)
    (simp c.in_err-prn.ensures.value refl)

pub returns-in_err-centre : goal.returns-in_err-centre
returns-in_err-centre c = rw (passed_on _ c.from_residual-in_err-centre.ensures.1)
    (simp (c.in_ok-prn.ensures.value, c.in_err-centre.ensures.value) refl)

pub returns-in_err-bins : goal.returns-in_err-bins
returns-in_err-bins c = rw (passed_on _ c.from_residual-in_err-bins.ensures.1)
    (simp (c.in_ok-prn.ensures.value, c.in_ok-centre.ensures.value, c.in_err-bins.ensures.value)
    refl)

pub returns-in_err-dwell : goal.returns-in_err-dwell
returns-in_err-dwell c = rw (passed_on _ c.from_residual-in_err-dwell.ensures.1)
    (simp (
      c.in_ok-prn.ensures.value,
      c.in_ok-centre.ensures.value,
      c.in_ok-bins.ensures.value,
      c.in_err-dwell.ensures.value,
    ) refl)

pub returns-in_err-threshold : goal.returns-in_err-threshold
returns-in_err-threshold c = rw (passed_on _ c.from_residual-in_err-threshold.ensures.1)
    (simp (
      c.in_ok-prn.ensures.value,
      c.in_ok-centre.ensures.value,
      c.in_ok-bins.ensures.value,
      c.in_ok-dwell.ensures.value,
      c.in_err-threshold.ensures.value,
    ) refl)

pub returns : goal.returns
unfolding values_in
returns c =
    let fits : FitsSigned w32 c.in_ok-centre.centre = search rules in
    let made = rw (to_z-of_z w32 c.in_ok-centre.centre fits) at c.new.ensures in
    let plan = in_range_is_plan c.in_ok-prn.prn c.in_ok-centre.centre c.in_ok-bins.bins
    c.in_ok-dwell.dwell c.in_ok-threshold.threshold c.new.result OutOfRange
    c.in_ok-centre.ensures.range c.in_ok-bins.ensures.range.1 c.in_ok-dwell.ensures.range
    c.in_ok-threshold.ensures.range made.centre made.bins made.dwell
    made.threshold made.same in
    rw (c.or.ensures, plan) (simp (
      c.in_ok-prn.ensures.value,
      c.in_ok-centre.ensures.value,
      c.in_ok-bins.ensures.value,
      c.in_ok-dwell.ensures.value,
      c.in_ok-threshold.ensures.value,
    ) refl)
