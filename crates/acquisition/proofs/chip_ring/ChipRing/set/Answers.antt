use Rattle.std.proofs.Common.{◌≡◌, ◌+◌, ◌%◌, ◌∙◌, ℕ, arith, refl}
use Rattle.acquisition.proofs.RingLemmas.{chip_is, set_next, ring_is}
use Rattle.acquisition.specs.declared.half_chip_table.TheConstants.{HALF_CHIPS, LAST}
use Rattle.acquisition.proofs.chip_ring.ChipRing.set.Goals as goal

pub put-requires-clause-small : goal.put-requires-clause-small
put-requires-clause-small c = (chip_is c.sum.result c.sum-in-loop-k.result c.sum.ensures.small
    c.sum-in-loop-k.ensures.small).small

pub loop-k-init : goal.loop-k-init
loop-k-init c j h = absurd (omega (arith, h))

pub loop-k-preserved : goal.loop-k-preserved
loop-k-preserved c =
    let k : ℕ = c.loop-k.k in
    let sum = chip_is c.sum.result c.sum-in-loop-k.result c.sum.ensures.small
    c.sum-in-loop-k.ensures.small in
    let next : (k + 1) % HALF_CHIPS ≡ k + 1 = omega (arith, c.loop-k-test.true) in
    set_next k _ c.args.table.now.sums c.loop-k.self.chips c.put.new.self.chips
    (omega (arith, c.loop-k-test.true)) c.loop-k.invariant
    (sum.value ∙ rw (c.sum.ensures.value, c.sum-in-loop-k.ensures.value, next) refl)
    c.put.ensures.chip c.put.ensures.others

pub put-requires-2-clause-small : goal.put-requires-2-clause-small
put-requires-2-clause-small c = (chip_is c.sum-2.result c.sum-3.result c.sum-2.ensures.small
    c.sum-3.ensures.small).small

pub returns : goal.returns
returns c =
    let table = c.args.table.now.sums in
    let end : c.loop-k.k ≡ LAST = omega (arith, c.loop-k-test.false, c.loop-k.auto.k-end) in
    let sum = chip_is c.sum-2.result c.sum-3.result c.sum-2.ensures.small c.sum-3.ensures.small in
    let all = set_next LAST _ table c.loop-k.self.chips c.put-2.new.self.chips (omega arith)
    (rw end at c.loop-k.invariant)
    (sum.value ∙ rw (c.sum-2.ensures.value, c.sum-3.ensures.value) refl)
    c.put-2.ensures.chip c.put-2.ensures.others in
    ring_is table c.put-2.new.self.chips c.close.new.self.chips all c.close.ensures.after
    c.close.ensures.others
