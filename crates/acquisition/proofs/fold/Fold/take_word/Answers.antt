use Rattle.std.proofs.Common.{◌≡◌, ◌≤◌, ◌+◌, ℕ, arith, refl}
use Rattle.definitions.specs.Oscillators.{code_phase_after}
use Rattle.lane_correlator.specs.SampleProducts.{in_phase_of, quadrature_of}
use Rattle.acquisition.specs.Folds.{in_phase_at, quadrature_at}
use Rattle.acquisition.proofs.PlaceLemmas.{code-goes_on}
use Rattle.acquisition.proofs.RunLemmas.{word_sum, room_left, table_run}
use Rattle.acquisition.proofs.fold.Fold.take_word.Goals as goal

pub add-requires-clause-room : goal.add-requires-clause-room
add-requires-clause-room c =
    let sum = word_sum (in_phase_of c.args.products.now) c.args.count c.loop-done.done
    c.loop-done.walk.left c.min.result c.min-len.result c.in_phase.result c.min-len.ensures
    c.min.ensures c.loop-done-test.true c.requires.count
    c.args.products.now.small c.in_phase.ensures in
    let room = room_left c.args.count c.loop-done.done c.args.self.now c.loop-done.self
    c.loop-done-test.true c.requires.room c.loop-done.invariant.room in
    omega (arith, sum.small, room.in_phase, c.min-len.ensures, c.min.ensures)

pub add-requires-in-loop-done-clause-room : goal.add-requires-in-loop-done-clause-room
add-requires-in-loop-done-clause-room c =
    let sum = word_sum (quadrature_of c.args.products.now) c.args.count c.loop-done.done
    c.loop-done.walk.left c.min.result c.min-len.result c.quadrature.result c.min-len.ensures
    c.min.ensures c.loop-done-test.true c.requires.count
    c.args.products.now.small_q c.quadrature.ensures in
    let room = room_left c.args.count c.loop-done.done c.args.self.now c.loop-done.self
    c.loop-done-test.true c.requires.room c.loop-done.invariant.room in
    omega (arith, sum.small, room.quadrature, c.min-len.ensures, c.min.ensures)

pub loop-done-preserved : goal.loop-done-preserved
loop-done-preserved c =
    let here = c.loop-done.invariant in
    let done : ℕ = c.loop-done.done in
    let len : ℕ = c.min-len.result in
    let within : done + len ≤ c.args.count = omega (
      arith,
      c.min-len.ensures,
      c.min.ensures,
      c.loop-done-test.true,
    ) in
    let left : len ≤ c.loop-done.walk.left = omega (arith, c.min-len.ensures, c.min.ensures) in
    let i = word_sum (in_phase_of c.args.products.now) c.args.count done
    c.loop-done.walk.left c.min.result len c.in_phase.result c.min-len.ensures
    c.min.ensures c.loop-done-test.true c.requires.count
    c.args.products.now.small c.in_phase.ensures in
    let q = word_sum (quadrature_of c.args.products.now) c.args.count done
    c.loop-done.walk.left c.min.result len c.quadrature.result c.min-len.ensures
    c.min.ensures c.loop-done-test.true c.requires.count
    c.args.products.now.small_q c.quadrature.ensures in
    record {
      done = within;
      room = λ n has.
          let e : done + len + n ≡ done + (len + n) = omega arith in
          let before = here.room (len + n) (rw e at has) in
          record {
            in_phase = omega (arith, before.in_phase, c.add.ensures.sizes, i.small);
            quadrature = omega
                (arith, before.quadrature, c.add-in-loop-done.ensures.sizes, q.small);
          };
      walk = λ phase step at.
          let on : code_phase_after (code_phase_after phase step done) step len
          ≡ code_phase_after phase step (done + len) =
          code-goes_on phase (code_phase_after phase step done) step step done len refl refl in
          rw on at (c.pass.ensures (code_phase_after phase step done) step
          (here.walk phase step at));
      fold = λ x step carrier_step from n is at wiped.
          let before = here.fold x step carrier_step from n is at wiped in
          let stands = here.walk (code_phase_after 0 step (from + n)) step at in
          record {
            in_phase = table_run (in_phase_at x carrier_step) step from n done len
                c.loop-done.walk.place (in_phase_of c.args.products.now) c.in_phase.result
                c.loop-done.self.in_phase.sums c.add.new.self.sums before.in_phase
                (λ j h. stands.here j (omega (arith, h, left)))
                (λ j h. wiped.in_phase j (omega (arith, h, within))) i c.add.ensures.added;
            quadrature = table_run (quadrature_at x carrier_step) step from n done len
                c.loop-done.walk.place (quadrature_of c.args.products.now) c.quadrature.result
                c.loop-done.self.quadrature.sums c.add-in-loop-done.new.self.sums
                before.quadrature
                (λ j h. stands.here j (omega (arith, h, left)))
                (λ j h. wiped.quadrature j (omega (arith, h, within))) q
                c.add-in-loop-done.ensures.added;
          };
    }

-- the loop ends once the word is done
end : (c : goal.After-loop-done) → c.loop-done.done ≡ c.args.count
end c = omega (arith, c.loop-done-test.false, c.loop-done.invariant.done)

pub returns-clause-fold : goal.returns-clause-fold
returns-clause-fold c x step carrier_step from n is at wiped =
    rw (end c) at (c.loop-done.invariant.fold x step carrier_step from n is at wiped)

pub returns-clause-walk : goal.returns-clause-walk
returns-clause-walk c phase step at =
    rw (end c) at (c.loop-done.invariant.walk phase step at)

pub returns-clause-room : goal.returns-clause-room
returns-clause-room c n has =
    c.loop-done.invariant.room n (rw (end c) has)
