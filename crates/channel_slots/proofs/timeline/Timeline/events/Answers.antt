use Rattle.channel_slots.proofs.timeline.Timeline.events.Goals as goal

pub returns : goal.returns
returns c = c.deref.ensures.value
