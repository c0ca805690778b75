use Rattle.std.proofs.Common.{◌≡◌, ◌++◌, refl, arith}
use Rattle.std.proofs.lemmas.Bool.{true≢false, false≢true}
use Rattle.channels.specs.Trackings.{dump_count}
use Rattle.channels.proofs.FollowedLemmas.{takes-on, takes-plain, takes-steered}
use Rattle.channels.proofs.FollowedLemmas.{none-counted, some-counted}
use Rattle.channels.proofs.OverLemmas.{over-same}
use Rattle.channels.proofs.ShiftLemmas.{as-number}
use Rattle.channels.proofs.followed.Followed.take.Goals as goal

pub invariant_of-self : goal.invariant_of-self
invariant_of-self c = record {
  counted = c.args.self.now.counted;
  few = omega (
    arith,
    c.args.self.now.few,
    c.args.self.now.follower.waits,
    c.take.ensures.at,
    c.requires.begun,
    c.min-to.ensures,
    c.ends.ensures.value,
  );
}

pub returns-in_default-clause-came : goal.returns-in_default-clause-came
returns-in_default-clause-came c =
    let came = rw c.in_default.is at c.take.ensures.came in (
      λ is. omega (arith, came.0 is, c.min-to.ensures, c.ends.ensures.value),
      λ far. came.1 (omega (arith, far, c.min-to.ensures, c.ends.ensures.value)),
    )

pub returns-in_default-clause-takes : goal.returns-in_default-clause-takes
returns-in_default-clause-takes c settings channel xs ys now over s =
    takes-on settings channel xs ys c.args.self.now _ s
    (rw c.in_default.is at (c.take.ensures.goes settings channel xs ys
    (omega (arith, now, c.ends.ensures.value, c.min-to.ensures))
    (over-same (xs ++ ys) _ _ c.unpack.ensures.same over) s.follows)) refl refl

pub returns-in_default-clause-chance : goal.returns-in_default-clause-chance
returns-in_default-clause-chance c is = absurd (false≢true is)

pub returns-in_default-clause-waits : goal.returns-in_default-clause-waits
returns-in_default-clause-waits c is = (rw c.in_default.is at c.take.ensures.waits) refl

pub overflow_add-self : goal.overflow_add-self
overflow_add-self c =
    omega (arith, c.args.self.now.few, c.requires.begun, c.requires.early)

pub invariant_of-self-in-None : goal.invariant_of-self-in-None
invariant_of-self-in-None c =
    let came = (rw c.in-Some.is at c.take.ensures.came).0 refl in
    record {
      counted = none-counted _ _ c.in-None.is;
      few = omega (
        arith,
        c.args.self.now.few,
        c.args.self.now.follower.waits,
        c.take.ensures.at,
        came,
      );
    }

pub take-requires-in-Some-tracking-clause-small : goal.take-requires-in-Some-tracking-clause-small
take-requires-in-Some-tracking-clause-small c = rw c.in-Some.is at c.take.ensures.small

pub take-requires-in-Some-tracking-clause-few : goal.take-requires-in-Some-tracking-clause-few
take-requires-in-Some-tracking-clause-few c =
    let counted : dump_count c.in-Some-tracking.tracking ≡ c.args.self.now.dumps =
    c.args.self.now.counted c.in-Some-tracking.tracking c.in-Some-tracking.is in
    let came = (rw c.in-Some.is at c.take.ensures.came).0 refl in
    omega (
      arith,
      counted,
      c.args.self.now.few,
      c.args.self.now.follower.waits,
      came,
      c.min-to.ensures,
      c.requires.early,
    )

pub steer-requires-clause-shift : goal.steer-requires-clause-shift
steer-requires-clause-shift c = rw (as-number c.v.result c.v.ensures.small) c.v.ensures.small

pub steer-requires-clause-correction : goal.steer-requires-clause-correction
steer-requires-clause-correction c =
    rw (as-number c.w.result (omega (arith, c.w.ensures.small))) c.w.ensures.small

pub invariant_of-self-in-Some-tracking : goal.invariant_of-self-in-Some-tracking
invariant_of-self-in-Some-tracking c =
    let counted : dump_count c.in-Some-tracking.tracking ≡ c.args.self.now.dumps =
    c.args.self.now.counted c.in-Some-tracking.tracking c.in-Some-tracking.is in
    let came = (rw c.in-Some.is at c.take.ensures.came).0 refl in
    record {
      counted = some-counted _ _ (rw counted at c.take-in-Some-tracking.ensures.dumps);
      few = omega (
        arith,
        c.args.self.now.few,
        c.args.self.now.follower.waits,
        c.take.ensures.at,
        came,
        c.steer.ensures.at,
      );
    }

pub returns-in-None-clause-came : goal.returns-in-None-clause-came
returns-in-None-clause-came c =
    let came = rw c.in-Some.is at c.take.ensures.came in (
      λ is. omega (arith, came.0 refl, c.min-to.ensures, c.ends.ensures.value),
      λ far. refl,
    )

pub returns-in-None-clause-takes : goal.returns-in-None-clause-takes
returns-in-None-clause-takes c settings channel xs ys now over s =
    rw c.set_plain.ensures
    (takes-plain settings channel xs ys c.args.self.now _ s _
    (rw c.in-Some.is at (c.take.ensures.goes settings channel xs ys
    (omega (arith, now, c.ends.ensures.value, c.min-to.ensures))
    (over-same (xs ++ ys) _ _ c.unpack.ensures.same over) s.follows))
    refl c.in-None.is c.in-None.is)

pub returns-in-None-clause-chance : goal.returns-in-None-clause-chance
returns-in-None-clause-chance c is = rw c.in-Some.is at c.take.ensures.chance

pub returns-in-None-clause-waits : goal.returns-in-None-clause-waits
returns-in-None-clause-waits c is = absurd (true≢false is)

pub returns-in-None-clause-same : goal.returns-in-None-clause-same
returns-in-None-clause-same c =
    let same = c.unpack.ensures.same in
    record {
      first = same.first;
      end = same.end;
      history = same.history;
      stands = λ xs s.
          let t = same.stands xs s in
          record { history = t.history; planes = t.planes };
    }

pub returns-in-Some-tracking-clause-came : goal.returns-in-Some-tracking-clause-came
returns-in-Some-tracking-clause-came c =
    let came = rw c.in-Some.is at c.take.ensures.came in (
      λ is. omega (arith, came.0 refl, c.min-to.ensures, c.ends.ensures.value),
      λ far. refl,
    )

pub returns-in-Some-tracking-clause-takes : goal.returns-in-Some-tracking-clause-takes
returns-in-Some-tracking-clause-takes c settings channel xs ys now over s =
    let took = c.take-in-Some-tracking in
    let v = as-number c.v.result c.v.ensures.small in
    let w = as-number c.w.result (omega (arith, c.w.ensures.small)) in
    takes-steered settings channel xs ys c.args.self.now _ s _ c.take.new.self c.v.result
    c.w.result c.in-Some-tracking.tracking took.new.self
    (rw (c.in-Some.is, ← took.ensures.counts) at (c.take.ensures.goes settings channel xs ys
    (omega (arith, now, c.ends.ensures.value, c.min-to.ensures))
    (over-same (xs ++ ys) _ _ c.unpack.ensures.same over) s.follows))
    refl c.in-Some-tracking.is refl
    (rw (v, w, c.settings.ensures) at c.steer.ensures.follows)
    (rw (← took.ensures.counts) at took.ensures.stands)
    (rw (← took.ensures.counts) at took.ensures.tells) c.v.ensures.is c.w.ensures.is

pub returns-in-Some-tracking-clause-chance : goal.returns-in-Some-tracking-clause-chance
returns-in-Some-tracking-clause-chance c is =
    rw c.steer.ensures.chance (rw c.in-Some.is at c.take.ensures.chance)

pub returns-in-Some-tracking-clause-waits : goal.returns-in-Some-tracking-clause-waits
returns-in-Some-tracking-clause-waits c is = absurd (true≢false is)

pub returns-in-Some-tracking-clause-same : goal.returns-in-Some-tracking-clause-same
returns-in-Some-tracking-clause-same c =
    let same = c.unpack.ensures.same in
    record {
      first = same.first;
      end = same.end;
      history = same.history;
      stands = λ xs s.
          let t = same.stands xs s in
          record { history = t.history; planes = t.planes };
    }

pub returns-in_default-clause-steered : goal.returns-in_default-clause-steered
returns-in_default-clause-steered c = refl

pub returns-in-None-clause-steered : goal.returns-in-None-clause-steered
returns-in-None-clause-steered c = refl

pub returns-in-Some-tracking-clause-steered : goal.returns-in-Some-tracking-clause-steered
returns-in-Some-tracking-clause-steered c = rw c.in-Some-tracking.is refl

pub returns-in_default-clause-kept : goal.returns-in_default-clause-kept
returns-in_default-clause-kept c _ = c.unpack.ensures.dump
