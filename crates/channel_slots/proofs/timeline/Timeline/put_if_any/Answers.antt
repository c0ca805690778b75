use Rattle.channel_slots.proofs.PutLemmas.{puts-none}
use Rattle.channel_slots.proofs.timeline.Timeline.put_if_any.Goals as goal

pub returns-in_default : goal.returns-in_default
returns-in_default c = rw c.in_default.is (puts-none c.args.self.now)
