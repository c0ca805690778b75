use Rattle.tracking_loops.proofs.WideLemmas.{product_is, product_small}
use Rattle.tracking_loops.proofs.discriminators.product.Goals as goal

pub returns-clause-is : goal.returns-clause-is
returns-clause-is c = product_is c.args.a c.args.b c.from.result c.from-2.result c.requires.a_in
    c.requires.b_in c.from.ensures c.from-2.ensures

pub returns-clause-small : goal.returns-clause-small
returns-clause-small c = product_small c.args.a c.args.b c.from.result c.from-2.result
    c.requires.a_in c.requires.b_in c.from.ensures c.from-2.ensures
