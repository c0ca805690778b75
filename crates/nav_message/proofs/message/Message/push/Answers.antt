use Rattle.std.proofs.Common.{sym, ◌∙◌, ◌++◌, [], ◌∷◌, to_z-of_z}
use Rattle.definitions.specs.BitEdge.{bits_of}
use Rattle.nav_message.proofs.PushNews.{nothing-told, edge-told, bit-told, stands-with}
use Rattle.nav_message.proofs.message.Message.push.Goals as goal

pub returns-in-Nothing-clause-news : goal.returns-in-Nothing-clause-news
returns-in-Nothing-clause-news c pushes h =
    let tells = rw (to_z-of_z c.ranges.ip) at (c.in-Nothing.ensures.tells pushes h.bits) in
    rw c.clear.ensures (sym (nothing-told pushes c.args.ip tells.0 tells.1))

pub returns-in-Edge-clause-news : goal.returns-in-Edge-clause-news
returns-in-Edge-clause-news c pushes h =
    let tells = rw (to_z-of_z c.ranges.ip) at (c.in-Edge.ensures.tells pushes h.bits) in
    sym (edge-told pushes c.args.ip tells.0 tells.1 tells.2)

pub returns-in-Bit-clause-news : goal.returns-in-Bit-clause-news
returns-in-Bit-clause-news c pushes h =
    let tells = rw (to_z-of_z c.ranges.ip) at (c.in-Bit.ensures.tells pushes h.bits) in
    c.take_bit.ensures.news (bits_of pushes) (record { frames = h.frames; sets = h.sets })
    ∙ sym (bit-told pushes c.args.ip c.in-Bit.bit tells.0 tells.1)

pub returns-in-Nothing-clause-stands : goal.returns-in-Nothing-clause-stands
returns-in-Nothing-clause-stands c pushes h =
    let tells = rw (to_z-of_z c.ranges.ip) at (c.in-Nothing.ensures.tells pushes h.bits) in
    let stands = rw (to_z-of_z c.ranges.ip) at (c.push.ensures.stands pushes h.bits) in
    stands-with (pushes ++ c.args.ip ∷ []) (bits_of pushes) _ stands tells.1
    (record { frames = h.frames; sets = h.sets })

pub returns-in-Edge-clause-stands : goal.returns-in-Edge-clause-stands
returns-in-Edge-clause-stands c pushes h =
    let tells = rw (to_z-of_z c.ranges.ip) at (c.in-Edge.ensures.tells pushes h.bits) in
    let stands = rw (to_z-of_z c.ranges.ip) at (c.push.ensures.stands pushes h.bits) in
    stands-with (pushes ++ c.args.ip ∷ []) (bits_of pushes) _ stands tells.2
    (record { frames = h.frames; sets = h.sets })

pub returns-in-Bit-clause-stands : goal.returns-in-Bit-clause-stands
returns-in-Bit-clause-stands c pushes h =
    let tells = rw (to_z-of_z c.ranges.ip) at (c.in-Bit.ensures.tells pushes h.bits) in
    let stands = rw (to_z-of_z c.ranges.ip) at (c.push.ensures.stands pushes h.bits) in
    stands-with (pushes ++ c.args.ip ∷ []) (bits_of pushes ++ c.in-Bit.bit ∷ []) _
    (rw c.take_bit.ensures.same_edge stands) tells.1
    (c.take_bit.ensures.read (bits_of pushes) (record { frames = h.frames; sets = h.sets }))
