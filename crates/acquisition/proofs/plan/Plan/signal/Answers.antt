use Rattle.std.proofs.Common.{rules, ◌≡◌, ◌≤◌, refl, w32, pos, ◌+ℤ◌, ◌*ℤ◌, true, false}
use Rattle.std.proofs.Common.{FitsSigned, unsigned_abs}
use Rattle.acquisition.proofs.PlanLemmas.{cell-shift-small, cell-shift-fits}
use Rattle.acquisition.proofs.plan.Plan.signal.Goals as goal

pub returns-clause-shift : goal.returns-clause-shift
returns-clause-shift c =
    let i = c.self.inside in
    let bin = c.args.cell.now.bin in
    let fits : FitsSigned w32 bin = search rules in
    let few : unsigned_abs bin ≤ 40 = search rules in
    let same : c.in_ok-new.field-0 ≡ i.centre +ℤ pos 250 *ℤ bin = rw
    (c.in_ok-new.ensures.same, cell-shift-fits i.centre bin c.self.invariant.0 few) refl in
    rw (same, ← c.self.view_is) refl

pub returns-in_err-new-clause-of_plan : goal.returns-in_err-new-clause-of_plan
returns-in_err-new-clause-of_plan c =
    let i = c.self.inside in
    let bin = c.args.cell.now.bin in
    let fits : FitsSigned w32 bin = search rules in
    let few : unsigned_abs bin ≤ 40 = search rules in
    let clash : false ≡ true = c.in_err-new.ensures.valid.1
    (rw (cell-shift-fits i.centre bin c.self.invariant.0 few)
    (cell-shift-small i.centre bin c.self.invariant.0 few)) in
    cc

pub returns-clause-prn : goal.returns-clause-prn
returns-clause-prn c = rw (← c.self.view_is) refl

pub returns-clause-half : goal.returns-clause-half
returns-clause-half c = refl
