-- How many events a slot may still emit with the open samples.
use Rattle.std.proofs.Common.{◌≤◌, ◌*◌, arith, true, false}
use Rattle.std.specs.Prelude.{Bool, if◌then◌else◌}
use Rattle.tracking_loops.specs.declared.news.News.{News}
use Rattle.channels.specs.Dumps.{is_loss}
use Rattle.channels.specs.declared.followed.Followed.{Followed}
use Rattle.channels.specs.FollowedChannels as followed
use Rattle.channels.proofs.ChanceLemmas as segments
use Rattle.channel_slots.specs.declared.stage.Stage.{Stage}
use Rattle.channel_slots.specs.declared.stage.Stage.TheVariants.{Idle, Searching, Following}
use Rattle.channel_slots.specs.Stages.{chance, after_dump}
use Rattle.channel_slots.specs.declared.slot.Slot.{Slot}
use Rattle.channel_slots.specs.Slots.{chances}

-- there is one dump of a slot at most, and the answer of an acquisition
one-stage : (stage : Stage) → chance stage ≤ 7
one-stage Idle = omega arith
one-stage (Searching a) = omega arith
one-stage (Following f) = omega (arith, segments.one-chance f.follower)

pub one-chance : (slot : Slot) → chances slot ≤ 7
one-chance slot = one-stage slot.stage

-- as many as a followed satellite may bring, or none where the signal is lost
pub dump-chance : (lock : News) (f : Followed)
    → chance (after_dump lock (Following f)) ≤ 6 * followed.chance f
dump-chance lock f = by_test (is_loss lock)
  where
    by_test : (b : Bool) → chance (if b then Idle else Following f) ≤ 6 * followed.chance f
    by_test true = omega arith
    by_test false = omega arith
