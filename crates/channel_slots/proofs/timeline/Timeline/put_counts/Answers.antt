use Rattle.channel_slots.proofs.PutLemmas.{puts-none}
use Rattle.channel_slots.proofs.timeline.Timeline.put_counts.Goals as goal

pub returns-else-is_shown : goal.returns-else-is_shown
returns-else-is_shown c = rw c.if-is_shown.false (puts-none c.args.self.now)
