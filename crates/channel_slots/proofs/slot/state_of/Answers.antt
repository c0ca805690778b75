use Rattle.channel_slots.proofs.StageLemmas.{shows-held, shows-tracked}
use Rattle.channels.proofs.ShiftLemmas.{as-number}
use Rattle.std.proofs.Common.{arith, refl, ◌∙◌}
use Rattle.channel_slots.proofs.slot.state_of.Goals as goal

pub returns-in-None : goal.returns-in-None
returns-in-None c settings xs life s =
    shows-held settings xs life c.args.followed.now s c.prn-prn.result c.dumps-dumps.result
    (c.prn-prn.ensures ∙ s.follows.follows.now.at.prn)
    (c.dumps-dumps.ensures ∙ s.follows.dumps)
    (rw c.in-None.is at c.tracking.ensures.none refl)

pub returns-in-Some : goal.returns-in-Some
returns-in-Some c settings xs life s =
    let v = as-number c.v.result (omega (arith, c.v.ensures.small)) in
    let w = as-number c.w.result (omega (arith, c.w.ensures.small)) in
    rw (v, w) (shows-tracked settings xs life c.args.followed.now s c.prn-prn.result
    c.dumps-dumps.result
    (c.prn-prn.ensures ∙ s.follows.follows.now.at.prn)
    (c.dumps-dumps.ensures ∙ s.follows.dumps) _ c.v.result c.w.result
    c.is_locked.result c.has_edge.result _ _ (rw c.in-Some.is at c.tracking.ensures.some)
    c.v.ensures.is c.w.ensures.is c.is_locked.ensures c.has_edge.ensures c.of.ensures.edge
    c.of.ensures.locked)
