use Rattle.std.proofs.Common.{◌≤◌, ℤ, sym, ap, ◌∙◌, arith, w32, FitsSigned, unsigned_abs, rules}
use Rattle.std.proofs.lemmas.Int.{to_z-of_z, fits_signed_from_abs}
use Rattle.tracking_loops.specs.declared.limits.TheConstants.{MOST_SUM}
use Rattle.definitions.specs.Events.{push_events}
use Rattle.channels.proofs.LockedLemmas.{tells-nothing, pushed, none-before, none-now}
use Rattle.channels.proofs.locked_message.LockedMessage.take.Goals as goal

fits : {z : ℤ} → unsigned_abs z ≤ MOST_SUM → FitsSigned w32 z
fits {z = z} h = fits_signed_from_abs w32 z (omega (arith, h))

pub returns-then-not-is_locked-clause-news : goal.returns-then-not-is_locked-clause-news
returns-then-not-is_locked-clause-news c dumps h now =
    rw c.clear.ensures
    (sym (ap push_events (none-now dumps _ (now ∙ c.if-not-is_locked.true)) ∙ tells-nothing))

-- the sum that is pushed is that of the counts
pub returns-in-Some-clause-stands : goal.returns-in-Some-clause-stands
returns-in-Some-clause-stands c dumps h now =
    let held = rw c.in-Some.is at h in
    let locked = now ∙ c.if-not-is_locked.false in
    let ip = to_z-of_z w32 c.args.counts.now.ip (fits c.requires.small.ip) in
    (locked, rw (pushed dumps _ held.0 locked) (rw ip at c.push.ensures.stands _ held.1))

pub returns-in-Some-clause-news : goal.returns-in-Some-clause-news
returns-in-Some-clause-news c dumps h now =
    let held = rw c.in-Some.is at h in
    let locked = now ∙ c.if-not-is_locked.false in
    let ip = to_z-of_z w32 c.args.counts.now.ip (fits c.requires.small.ip) in
    rw (pushed dumps _ held.0 locked) (rw ip at c.push.ensures.news _ held.1)

pub returns-in-None-clause-stands : goal.returns-in-None-clause-stands
returns-in-None-clause-stands c dumps h now =
    c.begin.ensures.stands _ (now ∙ c.if-not-is_locked.false)
    (none-before dumps _ (rw c.in-None.is at h))

pub returns-in-None-clause-news : goal.returns-in-None-clause-news
returns-in-None-clause-news c dumps h now =
    rw c.clear-in-None.ensures
    (sym (ap push_events (none-before dumps _ (rw c.in-None.is at h)) ∙ tells-nothing))

pub returns-then-not-is_locked-clause-stands : goal.returns-then-not-is_locked-clause-stands
returns-then-not-is_locked-clause-stands c = search rules
