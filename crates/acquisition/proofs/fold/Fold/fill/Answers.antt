use Rattle.std.proofs.Common.{◌≡◌, ◌≤◌, ◌<◌, ◌+◌, ◌-◌, ◌*◌, ◌^◌, ◌∙◌, ℕ, length, arith, refl, ap}
use Rattle.std.proofs.Common.{sym, rules}
use Rattle.definitions.specs.Samples.{Sample, sample_at}
use Rattle.definitions.specs.Oscillators.{code_phase_after, carrier_phase_after}
use Rattle.oscillators.specs.Views.{Oscillation}
use Rattle.acquisition.proofs.PlaceLemmas.{code-goes_on, carrier-goes_on}
use Rattle.acquisition.proofs.PowerLemmas.{held_run, run_length}
use Rattle.acquisition.proofs.RunLemmas.{room_less}
use Rattle.oscillators.specs.declared.settings.TheConstants.{MOST_PER_MS}
use Rattle.acquisition.proofs.fold.Fold.fill.Goals as goal

pub loop-done-init : goal.loop-done-init
loop-done-init g c =
    let steps = c.args.steps in
    let before : ℕ = c.args.before in
    let none : before + 0 ≡ before = omega arith in
    let zero : c.unwrap.result ≡ 0 = search rules in
    record {
      done = omega arith;
      room = room_less (c.args.len - 0) MOST_PER_MS c.args.self.now (omega (
        arith,
        c.requires.short,
      ))
          c.requires.none.room;
      code_step = ap (λ (o : Oscillation). o.step) c.jump.ensures
          ∙ ap (λ (o : Oscillation). o.step) c.new-code.ensures;
      carrier_step = ap (λ (o : Oscillation). o.step) c.advance.ensures
          ∙ ap (λ (o : Oscillation). o.step) c.new-carrier.ensures;
      at = rw none (record {
        code_is = ap (λ (o : Oscillation). o.phase) c.jump.ensures
            ∙ ap (λ (o : Oscillation). code_phase_after o.phase o.step before) c.new-code.ensures
            ∙ ap (λ (half : ℕ). code_phase_after (half * 2 ^ 31) steps.code before) zero;
        carrier_is = ap (λ (o : Oscillation). o.phase) c.advance.ensures
            ∙ ap (λ (o : Oscillation). carrier_phase_after o.phase o.step before)
            c.new-carrier.ensures
            ∙ ap (λ (n : ℕ). carrier_phase_after 0 n before) (sym
            (ap (λ (o : Oscillation). o.step) c.advance.ensures
            ∙ ap (λ (o : Oscillation). o.step) c.new-carrier.ensures));
      });
      fold = λ x same. c.requires.none.none x steps.code steps.carrier before;
    }

pub take-requires-clause-room : goal.take-requires-clause-room
take-requires-clause-room g c =
    let long : length c.unpack_into.new.planes ≡ c.min-count.result = run_length
    (g.S.SampleSource.held c.args.source.now) (c.args.first + c.loop-done.done)
    c.min-count.result c.unpack_into.new.planes c.unpack_into.ensures in
    room_less (length c.unpack_into.new.planes) (c.args.len - c.loop-done.done) c.loop-done.self
    (omega (arith, long, c.min-count.ensures, c.loop-done-test.true)) c.loop-done.invariant.room

pub loop-done-preserved : goal.loop-done-preserved
loop-done-preserved g c =
    let here = c.loop-done.invariant in
    let a = c.args in
    let done : ℕ = c.loop-done.done in
    let n : ℕ = c.min-count.result in
    let held : ℕ → Sample = g.S.SampleSource.held a.source.now in
    let within : done + n ≤ a.len = omega (arith, c.min-count.ensures, c.loop-done-test.true) in
    let long : length c.unpack_into.new.planes ≡ n = run_length held (a.first + done) n
    c.unpack_into.new.planes c.unpack_into.ensures in
    record {
      done = within;
      room =
          let left : length c.unpack_into.new.planes + (a.len - (done + n)) ≡ a.len - done = omega
          (arith, long, within) in
          c.take.ensures.room (a.len - (done + n)) (rw left here.room);
      code_step = ap (λ (o : Oscillation). o.step) c.jump-in-loop-done.ensures ∙ here.code_step;
      carrier_step = ap (λ (o : Oscillation). o.step) c.advance-in-loop-done.ensures ∙
          here.carrier_step;
      at =
          let e : a.before + done + n ≡ a.before + (done + n) = omega arith in
          rw (← e) (record {
            code_is = ap (λ (o : Oscillation). o.phase) c.jump-in-loop-done.ensures
                ∙ code-goes_on 0 c.loop-done.code.phase a.steps.code c.loop-done.code.step
                (a.before + done) n here.code_step here.at.code_is;
            carrier_is = ap (λ (o : Oscillation). o.phase) c.advance-in-loop-done.ensures
                ∙ carrier-goes_on 0 c.loop-done.carrier.phase c.loop-done.carrier.step
                c.loop-done.carrier.step (a.before + done) n refl here.at.carrier_is
                ∙ ap (λ (s : ℕ). carrier_phase_after 0 s (a.before + done + n))
                (sym (ap (λ (o : Oscillation). o.step) c.advance-in-loop-done.ensures));
          });
      fold = λ x same.
          let run : (j : ℕ) → j < length c.unpack_into.new.planes
          → sample_at c.unpack_into.new.planes j ≡ x (a.before + done + j) = λ j h.
          let f : a.first + done + j ≡ a.first + (done + j) = omega arith in
          let d : a.before + done + j ≡ a.before + (done + j) = omega arith in
          held_run held (a.first + done) n c.unpack_into.new.planes c.unpack_into.ensures j
          (omega (arith, h, long))
          ∙ rw (f, d) (same (done + j) (omega (arith, h, long, within))) in
          let step = here.carrier_step in
          rw (← long, ← step) (c.take.ensures.fold x a.before done
          (rw step (here.fold x same)) (rw c.phase.ensures.value here.at) run);
    }

pub returns : goal.returns
returns g c x same =
    let all : c.loop-done.done ≡ c.args.len = omega
    (arith, c.loop-done.invariant.done, c.loop-done-test.false) in
    rw all at (c.loop-done.invariant.fold x same)
