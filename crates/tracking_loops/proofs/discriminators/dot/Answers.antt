use Rattle.std.proofs.Common.{◌∙◌, rules, w32, FitsSigned}
use Rattle.std.proofs.lemmas.Int.{to_z-of_z}
use Rattle.std.specs.Prelude.{ℤ, ◌+ℤ◌}
use Rattle.std.proofs.Math.Path.{ap₂}
use Rattle.tracking_loops.proofs.WideLemmas.{products_fit, products_are, products_small}
use Rattle.tracking_loops.proofs.discriminators.dot.Goals as goal

pub overflow_add-result : goal.overflow_add-result
overflow_add-result c = products_fit c.product.result c.product-2.result
    c.product.ensures.small c.product-2.ensures.small

pub returns-clause-is : goal.returns-clause-is
returns-clause-is c =
    let before_ip : FitsSigned w32 c.args.before.now.ip = search rules in
    let before_qp : FitsSigned w32 c.args.before.now.qp = search rules in
    let ip : FitsSigned w32 c.args.counts.now.ip = search rules in
    let qp : FitsSigned w32 c.args.counts.now.qp = search rules in
    let first = simp to_z-of_z at c.product.ensures.is in
    let second = simp to_z-of_z at c.product-2.ensures.is in
    products_are c.product.result c.product-2.result c.product.ensures.small
    c.product-2.ensures.small
    ∙ ap₂ (λ (x y : ℤ). x +ℤ y) first second

pub returns-clause-small : goal.returns-clause-small
returns-clause-small c = products_small c.product.result c.product-2.result
    c.product.ensures.small c.product-2.ensures.small
