use Rattle.std.proofs.Common.{length, refl, rules}
use Rattle.definitions.specs.Lives.{held_channel}
use Rattle.channels.proofs.FollowedLemmas.{begins}
use Rattle.channels.proofs.FollowingLemmas.{none-ago}
use Rattle.channels.proofs.followed.Followed.hold.Goals as goal

pub returns-clause-stands : goal.returns-clause-stands
returns-clause-stands c xs now =
    let signal = c.args.signal in
    begins c.args.settings.now _ xs _ (c.start.ensures.follows
    (held_channel (length xs) signal.prn signal.doppler signal.half) xs now (record {
      prn_is = refl;
      start = now;
      code = none-ago signal.half _ (search rules);
      shift = refl;
    })) refl refl (λ a b. refl)

pub returns-clause-begins : goal.returns-clause-begins
returns-clause-begins c = record {
  at = c.start.ensures.at;
  steered_is = refl;
}
