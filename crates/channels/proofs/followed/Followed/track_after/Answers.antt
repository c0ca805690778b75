use Rattle.std.proofs.Common.{refl, ℤ, [], subst}
use Rattle.definitions.specs.Lives.{doppler_shift}
use Rattle.channels.specs.Trackings.{StandsFor}
use Rattle.channels.proofs.FollowedLemmas.{begins}
use Rattle.channels.proofs.ShiftLemmas.{same-shift}
use Rattle.channels.proofs.followed.Followed.track_after.Goals as goal

pub returns-clause-stands : goal.returns-clause-stands
returns-clause-stands c channel xs now b steered =
    let tracking = c.start-tracking in
    begins c.args.settings.now channel xs _
    (c.start.ensures.follows channel xs now (rw now at b)) refl b.start
    (record {
      shift = doppler_shift c.args.signal.doppler;
      steered = steered;
      stands = subst (λ (v : ℤ). StandsFor c.args.settings.now v [] tracking.result)
          (same-shift c.shift_of.result _ c.shift_of.ensures.small c.shift_of.ensures.value)
          tracking.ensures.stands;
    })

pub returns-clause-begins : goal.returns-clause-begins
returns-clause-begins c = record {
  at = c.start.ensures.at;
  steered_is = refl;
}
