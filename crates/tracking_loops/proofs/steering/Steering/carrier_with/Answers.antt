use Rattle.std.proofs.Common.{w64, ap, ◌∙◌, sym, arith}
use Rattle.std.specs.Prelude.{ℤ, pos, ◌+ℤ◌, ◌*ℤ◌}
use Rattle.std.proofs.Math.Path.{ap₂}
use Rattle.std.proofs.lemmas.Int.{to_z-of_z, fits_signed_from_abs}
use Rattle.definitions.specs.Loops.{clamp_shift}
use Rattle.lane_correlator.specs.Counting.{counts_in}
use Rattle.tracking_loops.specs.Standing.{steering_in}
use Rattle.tracking_loops.proofs.SteeringLemmas.{pulled-u, pulled-v, held-u, held-v, pull_is}
use Rattle.tracking_loops.proofs.SteeringLemmas.{slow_is, fast_is}
use Rattle.tracking_loops.proofs.steering.Steering.carrier_with.Goals as goal

pub returns-then-self-lt-FIRST_HOLDING-clause-u : goal.returns-then-self-lt-FIRST_HOLDING-clause-u
returns-then-self-lt-FIRST_HOLDING-clause-u c =
    to_z-of_z w64 c.clamp_shift-u.result (fits_signed_from_abs w64 c.clamp_shift-u.result
    (omega (arith, c.clamp_shift-u.ensures.small)))
    ∙ c.clamp_shift-u.ensures.is
    ∙ ap clamp_shift (pull_is c.args.self.now.u c.frequency_error.result c.args.self.now.u_in_range
    c.frequency_error.ensures.small ∙ ap (λ e. c.args.self.now.u +ℤ pos 160 *ℤ e)
    c.frequency_error.ensures.is)
    ∙ sym (pulled-u (steering_in c.args.self.now) (counts_in c.args.counts.now)
    c.if-self-lt-FIRST_HOLDING.true)

pub returns-then-self-lt-FIRST_HOLDING-clause-v : goal.returns-then-self-lt-FIRST_HOLDING-clause-v
returns-then-self-lt-FIRST_HOLDING-clause-v c =
    to_z-of_z w64 c.clamp_shift-u.result (fits_signed_from_abs w64 c.clamp_shift-u.result
    (omega (arith, c.clamp_shift-u.ensures.small)))
    ∙ c.clamp_shift-u.ensures.is
    ∙ ap clamp_shift (pull_is c.args.self.now.u c.frequency_error.result c.args.self.now.u_in_range
    c.frequency_error.ensures.small ∙ ap (λ e. c.args.self.now.u +ℤ pos 160 *ℤ e)
    c.frequency_error.ensures.is)
    ∙ sym (pulled-v (steering_in c.args.self.now) (counts_in c.args.counts.now)
    c.if-self-lt-FIRST_HOLDING.true)

pub returns-clause-u : goal.returns-clause-u
returns-clause-u c =
    to_z-of_z w64 c.clamp_shift-u-2.result (fits_signed_from_abs w64 c.clamp_shift-u-2.result
    (omega (arith, c.clamp_shift-u-2.ensures.small)))
    ∙ c.clamp_shift-u-2.ensures.is
    ∙ ap clamp_shift
    (slow_is c.args.self.now.u c.phase_error-error.result c.args.self.now.u_in_range
    c.phase_error-error.ensures.small ∙ ap (λ e. c.args.self.now.u +ℤ pos 6 *ℤ e)
    c.phase_error-error.ensures.is)
    ∙ sym (held-u (steering_in c.args.self.now) (counts_in c.args.counts.now)
    c.if-self-lt-FIRST_HOLDING.false)

pub returns-clause-v : goal.returns-clause-v
returns-clause-v c =
    let slow = c.clamp_shift-u-2.ensures.is ∙ ap clamp_shift
    (slow_is c.args.self.now.u c.phase_error-error.result c.args.self.now.u_in_range
    c.phase_error-error.ensures.small ∙ ap (λ e. c.args.self.now.u +ℤ pos 6 *ℤ e)
    c.phase_error-error.ensures.is) in
    to_z-of_z w64 c.clamp_shift.result (fits_signed_from_abs w64 c.clamp_shift.result
    (omega (arith, c.clamp_shift.ensures.small)))
    ∙ c.clamp_shift.ensures.is
    ∙ ap clamp_shift (fast_is c.clamp_shift-u-2.result c.phase_error-error.result
    c.clamp_shift-u-2.ensures.small c.phase_error-error.ensures.small
    ∙ ap₂ (λ (u e : ℤ). u +ℤ pos 170 *ℤ e) slow c.phase_error-error.ensures.is)
    ∙ sym (held-v (steering_in c.args.self.now) (counts_in c.args.counts.now)
    c.if-self-lt-FIRST_HOLDING.false)
