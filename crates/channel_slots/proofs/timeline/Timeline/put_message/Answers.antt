use Rattle.channel_slots.proofs.PutLemmas.{puts-none}
use Rattle.channel_slots.proofs.timeline.Timeline.put_message.Goals as goal

pub returns-in-Nothing : goal.returns-in-Nothing
returns-in-Nothing c = rw c.in-Nothing.is (puts-none c.args.self.now)
