use Rattle.std.proofs.Common.{◌^◌, ◌∙◌, arith, rules, w32, FitsSigned}
use Rattle.std.proofs.lemmas.Int.{to_z-of_z}
use Rattle.std.specs.Prelude.{ℤ, ◌-ℤ◌}
use Rattle.std.proofs.Math.Path.{ap₂}
use Rattle.tracking_loops.proofs.WideLemmas.{difference_fits, difference_is, difference_small}
use Rattle.tracking_loops.proofs.discriminators.cross.Goals as goal

pub overflow_sub-result : goal.overflow_sub-result
overflow_sub-result c = difference_fits c.product.result c.product-2.result
    (omega (arith, c.product.ensures.small)) (omega (arith, c.product-2.ensures.small))

pub returns-clause-is : goal.returns-clause-is
returns-clause-is c =
    let before_ip : FitsSigned w32 c.args.before.now.ip = search rules in
    let before_qp : FitsSigned w32 c.args.before.now.qp = search rules in
    let ip : FitsSigned w32 c.args.counts.now.ip = search rules in
    let qp : FitsSigned w32 c.args.counts.now.qp = search rules in
    let first = simp to_z-of_z at c.product.ensures.is in
    let second = simp to_z-of_z at c.product-2.ensures.is in
    difference_is c.product.result c.product-2.result (omega (arith, c.product.ensures.small))
    (omega (arith, c.product-2.ensures.small))
    ∙ ap₂ (λ (x y : ℤ). x -ℤ y) first second

pub returns-clause-small : goal.returns-clause-small
returns-clause-small c = difference_small c.product.result c.product-2.result
    (omega (arith, c.product.ensures.small)) (omega (arith, c.product-2.ensures.small)) (2 ^ 37)
    (omega (arith, c.product.ensures.small, c.product-2.ensures.small))
