use Rattle.channel_slots.proofs.OrderLemmas.{put-nothing}
use Rattle.channel_slots.proofs.timeline.Timeline.put_news.Goals as goal

pub returns-else-not-is_silent : goal.returns-else-not-is_silent
returns-else-not-is_silent c =
    rw (c.in-Dump.is, c.is_silent.ensures.0 c.if-not-is_silent.false) (put-nothing _ _)

pub returns-in-Acquired : goal.returns-in-Acquired
returns-in-Acquired c =
    let time = rw c.in-Acquired.is at c.time-self.ensures in
    rw (c.in-Acquired.is, ← time) c.put.ensures.puts
