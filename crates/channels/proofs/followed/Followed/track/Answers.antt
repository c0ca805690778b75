use Rattle.std.proofs.Common.{length, refl, rules}
use Rattle.definitions.specs.Lives.{tracked_channel}
use Rattle.definitions.specs.Loops.{loops_after}
use Rattle.channels.proofs.FollowingLemmas.{none-ago}
use Rattle.channels.proofs.followed.Followed.track.Goals as goal

pub returns-clause-stands : goal.returns-clause-stands
unfolding loops_after
returns-clause-stands c xs now =
    let signal = c.args.signal in
    c.track_after.ensures.stands
    (tracked_channel (length xs) signal.prn signal.doppler signal.half) xs now
    (record {
      prn_is = refl;
      start = refl;
      code = none-ago signal.half _ (search rules);
      shift = refl;
    })
    (λ dumps. refl)

pub returns-clause-begins : goal.returns-clause-begins
returns-clause-begins c = c.track_after.ensures.begins
