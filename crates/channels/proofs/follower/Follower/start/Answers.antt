use Rattle.std.proofs.Common.{refl}
use Rattle.std.proofs.Common.{◌≡◌, refl, sym, arith, pos, ap, ◌<◌, ◌*◌, ◌^◌, ◌∙◌, w64}
use Rattle.std.proofs.lemmas.Int.{to_z-of_z, fits_signed_from_abs}
use Rattle.definitions.specs.Oscillators.{code_step, carrier_step, code_phase_after}
use Rattle.definitions.specs.Segments.{Shift}
use Rattle.oscillators.specs.Views.{Oscillation}
use Rattle.channels.proofs.FollowingLemmas.{started, at-once}
use Rattle.channels.proofs.WrapLemmas.{end-near, begins-low, begins-before, begins-through}
use Rattle.channels.proofs.SizeLemmas.{none-grow}
use Rattle.channels.proofs.follower.Follower.start.Goals as goal

pub overflow_add-result : goal.overflow_add-result
overflow_add-result c =
    let moves : 0 < c.jump.new.self.step =
    rw (c.jump.ensures, c.new-code.ensures) (omega (arith, c.code_step.ensures.fast)) in
    omega (
      arith,
      c.requires,
      end-near c.jump.new.self.phase c.jump.new.self.step c.to_wrap.result moves
          c.to_wrap.ensures.least,
    )

pub invariant_of-result : goal.invariant_of-result
invariant_of-result c =
    let o = c.jump.new.self in
    let w = c.to_wrap.result in
    let wrap = c.to_wrap.ensures in
    let step : o.step ≡ c.code_step.result =
    ap (λ (o : Oscillation). o.step) c.jump.ensures
    ∙ ap (λ (o : Oscillation). o.step) c.new-code.ensures in
    record {
      early = c.requires;
      waits = omega (arith, wrap.at_least_one);
      in_cycle = begins-low o.phase o.step c.args.time w wrap.at_least_one wrap.least;
      moves = omega (arith, step, c.code_step.ensures.fast);
      slow = omega (arith, step, c.code_step.ensures.slow);
      small = none-grow _ o.step o.phase refl;
      before = begins-before o.phase o.step c.args.time w wrap.at_least_one wrap.least;
      through = begins-through o.phase o.step c.args.time w wrap.through;
    }

pub returns-clause-follows : goal.returns-clause-follows
returns-clause-follows c channel xs many begins =
    let settings = c.args.settings.now in
    let shift =
    to_z-of_z w64 c.shift_of-v.result
    (fits_signed_from_abs w64 c.shift_of-v.result (omega (arith, c.shift_of-v.ensures.small)))
    ∙ c.shift_of-v.ensures.value in
    let computed =
    c.code_step.ensures.value ∙ ap (λ v. code_step settings v (pos 0)) shift in
    let step = ap (λ (o : Oscillation). o.step) c.new-code.ensures ∙ computed in
    at-once settings channel xs _
    (started settings channel xs _ (begins.start ∙ sym many) (sym many) (sym begins.prn_is)
    (ap (λ (o : Oscillation). o.phase) c.jump.ensures
    ∙ ap (λ (o : Oscillation). code_phase_after o.phase o.step c.args.ago) c.new-code.ensures
    ∙ ap (λ n. code_phase_after (c.args.signal.half * 2 ^ 31) n c.args.ago) computed
    ∙ sym begins.code)
    (ap (λ (o : Oscillation). o.phase) c.new.ensures)
    (ap (λ (o : Oscillation). o.step) c.jump.ensures ∙ step
    ∙ ap (λ (d : Shift). code_step settings d.v d.w) (sym begins.shift))
    (ap (λ (o : Oscillation). o.step) c.new.ensures ∙ c.carrier_step.ensures
    ∙ ap (λ v. carrier_step settings v) shift
    ∙ ap (λ (d : Shift). carrier_step settings d.v) (sym begins.shift)) refl)

pub returns-clause-at : goal.returns-clause-at
returns-clause-at c = refl
