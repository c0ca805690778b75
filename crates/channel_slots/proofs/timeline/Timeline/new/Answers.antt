use Rattle.std.proofs.Common.{rules}
use Rattle.channel_slots.proofs.timeline.Timeline.new.Goals as goal

pub invariant_of-result : goal.invariant_of-result
invariant_of-result c = search rules
