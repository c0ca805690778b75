use Rattle.std.proofs.Common.{◌≡◌, ◌<◌, ℤ, refl, ap, ap₂, ◌∙◌, sym, w64, arith}
use Rattle.std.proofs.lemmas.Int.{to_z-of_z, fits_signed_from_abs}
use Rattle.definitions.specs.Oscillators.{code_step, carrier_step}
use Rattle.definitions.specs.Segments.{Shift}
use Rattle.oscillators.specs.Views.{Oscillation}
use Rattle.channels.specs.Following.{phase_chance}
use Rattle.channels.proofs.FollowingLemmas.{steered, at-once}
use Rattle.channels.proofs.WrapLemmas.{end-near, begins-low, begins-before, begins-through}
use Rattle.channels.proofs.SizeLemmas.{none-grow}
use Rattle.channels.proofs.follower.Follower.steer.Goals as goal

pub overflow_add-self : goal.overflow_add-self
overflow_add-self c =
    let moves : 0 < c.set_step.new.self.step =
    rw c.set_step.ensures (omega (arith, c.code_step.ensures.fast)) in
    omega (
      arith,
      c.args.self.now.early,
      end-near c.set_step.new.self.phase c.set_step.new.self.step c.to_wrap.result moves
          c.to_wrap.ensures.least,
    )

pub invariant_of-self : goal.invariant_of-self
invariant_of-self c =
    let f = c.args.self.now in
    let o = c.set_step.new.self in
    let w = c.to_wrap.result in
    let wrap = c.to_wrap.ensures in
    let step : o.step ≡ c.code_step.result =
    ap (λ (o : Oscillation). o.step) c.set_step.ensures in
    record {
      early = f.early;
      waits = omega (arith, wrap.at_least_one);
      in_cycle = begins-low o.phase o.step f.at w wrap.at_least_one wrap.least;
      moves = omega (arith, step, c.code_step.ensures.fast);
      slow = omega (arith, step, c.code_step.ensures.slow);
      small = none-grow _ o.step o.phase refl;
      before = begins-before o.phase o.step f.at w wrap.at_least_one wrap.least;
      through = begins-through o.phase o.step f.at w wrap.through;
    }

pub returns-clause-follows : goal.returns-clause-follows
returns-clause-follows c channel xs s shift =
    let settings = c.args.settings.now in
    let v =
    to_z-of_z w64 c.args.v (fits_signed_from_abs w64 c.args.v (omega (arith, c.requires.shift))) in
    let w =
    to_z-of_z w64 c.args.w
    (fits_signed_from_abs w64 c.args.w (omega (arith, c.requires.correction))) in
    at-once settings channel xs _
    (steered settings channel xs c.args.self.now _ s.at s.opens refl refl
    (ap (λ (o : Oscillation). o.phase) c.set_step.ensures)
    (ap (λ (o : Oscillation). o.phase) c.set_step-2.ensures) refl
    (ap (λ (o : Oscillation). o.step) c.set_step.ensures ∙ c.code_step.ensures.value
    ∙ ap₂ (code_step settings) v w ∙ ap (λ (d : Shift). code_step settings d.v d.w) (sym shift))
    (ap (λ (o : Oscillation). o.step) c.set_step-2.ensures ∙ c.carrier_step.ensures
    ∙ ap (λ (k : ℤ). carrier_step settings k) v
    ∙ ap (λ (d : Shift). carrier_step settings d.v) (sym shift)))

pub returns-clause-chance : goal.returns-clause-chance
returns-clause-chance c = ap (λ (o : Oscillation). phase_chance o.phase) c.set_step.ensures

pub returns-clause-prn : goal.returns-clause-prn
returns-clause-prn c = refl

pub returns-clause-at : goal.returns-clause-at
returns-clause-at c = refl
