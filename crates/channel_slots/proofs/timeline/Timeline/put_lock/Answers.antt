use Rattle.channel_slots.proofs.PutLemmas.{puts-none}
use Rattle.channel_slots.proofs.timeline.Timeline.put_lock.Goals as goal

pub returns-in-Nothing : goal.returns-in-Nothing
returns-in-Nothing c = rw c.in-Nothing.is (puts-none c.args.self.now)

pub returns-in-Lock : goal.returns-in-Lock
returns-in-Lock c = rw c.in-Lock.is c.put.ensures
