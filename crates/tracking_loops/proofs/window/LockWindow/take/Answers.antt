use Rattle.std.proofs.Common.{ℕ, ◌+◌, ◌*◌, rules, w32, FitsSigned, refl, ap, ◌∙◌, sym, arith}
use Rattle.std.specs.Prelude.{Some, nat_le}
use Rattle.std.proofs.Math.Path.{ap₂}
use Rattle.std.proofs.lemmas.Int.{to_z-of_z}
use Rattle.lane_correlator.specs.Counting.{counts_in}
use Rattle.tracking_loops.proofs.WindowLemmas.{part-goes_on, part-none, whole-goes_on, whole-some}
use Rattle.tracking_loops.proofs.window.LockWindow.take.Goals as goal

pub returns-then-self-lt-DUMPS_OF_WINDOW-clause-goes_on :
    goal.returns-then-self-lt-DUMPS_OF_WINDOW-clause-goes_on
returns-then-self-lt-DUMPS_OF_WINDOW-clause-goes_on c dumps late h =
    let ip_fits : FitsSigned w32 c.args.counts.now.ip = search rules in
    let qp_fits : FitsSigned w32 c.args.counts.now.qp = search rules in
    let ip = simp to_z-of_z at c.unsigned_abs.ensures.value in
    let qp = simp to_z-of_z at c.unsigned_abs-2.ensures.value in
    part-goes_on dumps (counts_in c.args.counts.now) c.args.self.now h (omega (arith, late)) _
    c.if-self-lt-DUMPS_OF_WINDOW.true refl (ap (λ n. c.args.self.now.in_phase + n) ip)
    (ap (λ n. c.args.self.now.quadrature + n) qp)

pub returns-then-self-lt-DUMPS_OF_WINDOW-clause-whole :
    goal.returns-then-self-lt-DUMPS_OF_WINDOW-clause-whole
returns-then-self-lt-DUMPS_OF_WINDOW-clause-whole c dumps late h = sym
    (part-none dumps (counts_in c.args.counts.now) c.args.self.now h (omega (arith, late))
    c.if-self-lt-DUMPS_OF_WINDOW.true)

pub returns-clause-goes_on : goal.returns-clause-goes_on
returns-clause-goes_on c dumps late h = whole-goes_on dumps (counts_in c.args.counts.now)
    c.args.self.now h (omega (arith, late)) _ (omega arith) refl refl refl

pub returns-clause-whole : goal.returns-clause-whole
returns-clause-whole c dumps late h =
    let ip_fits : FitsSigned w32 c.args.counts.now.ip = search rules in
    let qp_fits : FitsSigned w32 c.args.counts.now.qp = search rules in
    let ip = simp to_z-of_z at c.unsigned_abs.ensures.value in
    let qp = simp to_z-of_z at c.unsigned_abs-2.ensures.value in
    sym (whole-some dumps (counts_in c.args.counts.now) c.args.self.now h (omega (arith, late))
    (omega arith)
    ∙ ap₂ (λ (i q : ℕ). Some (nat_le (2 * (c.args.self.now.quadrature + q))
    (c.args.self.now.in_phase + i))) (sym ip) (sym qp))
