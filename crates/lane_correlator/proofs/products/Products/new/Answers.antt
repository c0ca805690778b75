use Rattle.oscillators.specs.declared.carrier.TheConstants.{MOST_PRODUCT}
use Rattle.lane_correlator.specs.ByteSums.{IsWiped}
use Rattle.lane_correlator.proofs.ReplicaLemmas.{eighths_below}
use Rattle.lane_correlator.proofs.ProductLemmas.{products_are}
use Rattle.lane_correlator.proofs.DifferenceLemmas.{part_is, parts_at_most}
use Rattle.lane_correlator.proofs.products.Products.new.Goals as goal

pub new-wiped-requires-clause-cycle : goal.new-wiped-requires-clause-cycle
new-wiped-requires-clause-cycle c = eighths_below _ _ _ c.next_eighths-eighths.ensures.eighths

pub invariant_of-result-clause-small : goal.invariant_of-result-clause-small
invariant_of-result-clause-small c =
    let wiped : IsWiped c.args.samples.now c.args.w c.next_eighths-eighths.result
    c.new-wiped.result = c.new-wiped.ensures.wiped c.args.samples.now c.args.w
    c.codes.ensures.codes c.codes_q.ensures.codes c.codes_q.ensures.real in
    parts_at_most MOST_PRODUCT c.new-wiped.result.i c.running_sums.result c.from_none.result
    wiped.small_in_phase c.running_sums.ensures.sums c.from_none.ensures.sums
    c.from_none.ensures.none

pub invariant_of-result-clause-small_q : goal.invariant_of-result-clause-small_q
invariant_of-result-clause-small_q c =
    let wiped : IsWiped c.args.samples.now c.args.w c.next_eighths-eighths.result
    c.new-wiped.result = c.new-wiped.ensures.wiped c.args.samples.now c.args.w
    c.codes.ensures.codes c.codes_q.ensures.codes c.codes_q.ensures.real in
    parts_at_most MOST_PRODUCT c.new-wiped.result.q c.running_sums-2.result c.from_none-2.result
    wiped.small_quadrature c.running_sums-2.ensures.sums c.from_none-2.ensures.sums
    c.from_none-2.ensures.none

pub returns-clause-products : goal.returns-clause-products
returns-clause-products c =
    products_are c.args.samples.now c.args.w c.args.carrier.now c.next_eighths-eighths.result
    c.new-wiped.result _ c.next_eighths-eighths.ensures.eighths
    (c.new-wiped.ensures.wiped c.args.samples.now c.args.w c.codes.ensures.codes
    c.codes_q.ensures.codes c.codes_q.ensures.real)
    (part_is c.new-wiped.result.i c.running_sums.result c.from_none.result
    c.running_sums.ensures.sums c.from_none.ensures.sums
    c.from_none.ensures.none)
    (part_is c.new-wiped.result.q c.running_sums-2.result c.from_none-2.result
    c.running_sums-2.ensures.sums c.from_none-2.ensures.sums
    c.from_none-2.ensures.none)

pub returns-clause-moved : goal.returns-clause-moved
returns-clause-moved c = c.next_eighths-eighths.ensures.moved
