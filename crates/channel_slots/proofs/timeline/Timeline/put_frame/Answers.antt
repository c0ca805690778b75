use Rattle.std.proofs.Common.{arith, [], ◌∷◌}
use Rattle.slot_protocol.specs.declared.event.Event.TheVariants as events
use Rattle.channel_slots.proofs.NewsLemmas.{few-any}
use Rattle.channel_slots.proofs.PutLemmas.{puts-more, few-put, mapped}
use Rattle.channel_slots.proofs.timeline.Timeline.put_frame.Goals as goal

pub put-requires : goal.put-requires
put-requires c =
    omega (arith, c.requires, few-put _ _ _ 1 c.put_if_any.ensures (few-any c.map.result))

pub put_if_any-requires-2 : goal.put_if_any-requires-2
put_if_any-requires-2 c =
    omega (
      arith,
      c.requires,
      few-put _ _ _ 1 c.put_if_any.ensures (few-any c.map.result),
      few-put _ _ _ 1 c.put.ensures (omega arith),
    )

pub put_if_any-requires-3 : goal.put_if_any-requires-3
put_if_any-requires-3 c =
    omega (
      arith,
      c.requires,
      few-put _ _ _ 1 c.put_if_any.ensures (few-any c.map.result),
      few-put _ _ _ 1 c.put.ensures (omega arith),
      few-put _ _ _ 1 c.put_if_any-2.ensures (few-any c.map-2.result),
    )

pub returns : goal.returns
returns c =
    let gap = mapped events.Gap _ _ c.map.ensures.cases in
    let page = mapped events.Page _ _ c.map-2.ensures.cases in
    let set = mapped events.Almanacs _ _ c.map-3.ensures.cases in
    let first = rw gap at c.put_if_any.ensures in
    let third = rw page at c.put_if_any-2.ensures in
    let fourth = rw set at c.put_if_any-3.ensures in
    puts-more _ _ _ _ _ first
    (puts-more (_ ∷ []) _ _ _ _ c.put.ensures (puts-more _ _ _ _ _ third fourth))
