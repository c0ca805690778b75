use Rattle.std.proofs.Common.{rules}
use Rattle.channel_slots.proofs.timeline.Timeline.clear.Goals as goal

pub returns : goal.returns
returns c = search rules
