use Rattle.std.proofs.Common.{arith}
use Rattle.channel_slots.proofs.NewsLemmas.{few-counts, few-locks}
use Rattle.channel_slots.proofs.PutLemmas.{puts-more, few-put}
use Rattle.channel_slots.proofs.timeline.Timeline.put_dump.Goals as goal

pub put_lock-requires : goal.put_lock-requires
put_lock-requires c =
    omega (
      arith,
      c.requires,
      few-put _ _ _ 1 c.put_counts.ensures (few-counts c.args.is_shown c.args.dump.now.counts),
    )

pub put_message-requires : goal.put_message-requires
put_message-requires c =
    omega (
      arith,
      c.requires,
      few-put _ _ _ 1 c.put_counts.ensures (few-counts c.args.is_shown c.args.dump.now.counts),
      few-put _ _ _ 1 c.put_lock.ensures (few-locks c.args.dump.now.lock),
    )

pub returns : goal.returns
returns c =
    puts-more _ _ _ _ _ c.put_counts.ensures
    (puts-more _ _ _ _ _ c.put_lock.ensures c.put_message.ensures)
