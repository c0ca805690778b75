use Rattle.std.proofs.lemmas.Bool.{false≢true}
use Rattle.std.proofs.Common.{◌≡◌, ◌+◌, ◌-◌, ◌*◌, ◌<◌, ℕ, List, ◌++◌, length, take, drop}
use Rattle.std.proofs.Common.{refl, ap, arith}
use Rattle.std.proofs.lemmas.Bool.{true≢false}
use Rattle.definitions.specs.Samples.{Sample}
use Rattle.definitions.specs.Oscillators.{code_cycle}
use Rattle.oscillators.specs.Views.{Oscillation}
use Rattle.lane_correlator.specs.Counting.{counts_in}
use Rattle.channels.specs.Sizes.{GrowWith}
use Rattle.channels.proofs.FollowingLemmas.{stays, closes, low-before}
use Rattle.channels.proofs.FollowingLemmas.{stays_over, closes_over}
use Rattle.channels.proofs.WindowLemmas.{many, moves_by}
use Rattle.channels.proofs.WrapLemmas.{quiet, wraps, past_less, end-near}
use Rattle.channels.proofs.WrapLemmas.{left-before, left-ends, begins-low, begins-before}
use Rattle.channels.proofs.WrapLemmas.{begins-through}
use Rattle.channels.proofs.ChanceLemmas.{chance-less}
use Rattle.channels.proofs.SizeLemmas.{sums_fit, sums_grow, sums_small, last-step}
use Rattle.channels.proofs.SizeLemmas.{none-grow}
use Rattle.channels.proofs.follower.Follower.take.Goals as goal

pub add-sums-requires : goal.add-sums-requires
add-sums-requires c =
    let f = c.args.self.now in
    let more = c.replica_sums-more in
    sums_fit f.sums (counts_in more.result) f.code.step f.code.phase (c.args.to - f.at) f.small
    f.moves f.in_cycle more.ensures.small more.ensures.few

pub advance-requires-clause-within : goal.advance-requires-clause-within
advance-requires-clause-within c =
    let f = c.args.self.now in
    low-before f (c.args.to - f.at - 1) (omega (arith, f.waits, c.requires.ends))

pub invariant_of-self : goal.invariant_of-self
invariant_of-self c =
    let f = c.args.self.now in
    let n : ℕ = c.args.to - f.at in
    let w : ℕ = f.ends - f.at in
    let less : n < w = omega (arith, c.requires.begun, c.if-to-self.true) in
    let left : f.ends - c.args.to ≡ w - n = omega (arith, c.requires.begun) in
    let after =
    quiet f.code c.advance.new.self n n w refl c.advance.ensures less (low-before f) in
    let step : c.advance.new.self.step ≡ f.code.step =
    ap (λ (o : Oscillation). o.step) c.advance.ensures in
    let grown : GrowWith c.add-sums.result f.code.step (f.code.phase + n * f.code.step) =
    sums_grow f.sums c.add-sums.result (counts_in c.replica_sums-more.result) f.code.step
    f.code.phase n f.small c.replica_sums-more.ensures.small c.add-sums.ensures in
    record {
      early = c.requires.early;
      waits = c.if-to-self.true;
      in_cycle = rw (after.1) (after.0);
      moves = rw step f.moves;
      slow = rw step f.slow;
      small = rw (step, after.1) grown;
      before = rw (left, step, after.1) (left-before f.code.phase f.code.step n w less f.before);
      through = rw (left, step, after.1) (left-ends f.code.phase f.code.step n w less f.through);
    }

pub returns-then-to-self-clause-goes : goal.returns-then-to-self-clause-goes
returns-then-to-self-clause-goes c settings channel xs ys all over s =
    let f = c.args.self.now in
    let n : ℕ = c.args.to - f.at in
    let w : ℕ = f.ends - f.at in
    let zs : List Sample = drop f.at (xs ++ ys) in
    let is : n ≡ length zs = many (xs ++ ys) f.at c.args.to all in
    let less : length zs < w = omega (arith, is, c.requires.begun, c.if-to-self.true) in
    let after =
    quiet f.code c.advance.new.self n (length zs) w is c.advance.ensures less (low-before f) in
    let moves =
    moves_by f (xs ++ ys) c.args.window.now c.planes.result.now c.args.to c.place-from.result
    c.advance-2.new.self.phase (counts_in c.replica_sums-more.result) (counts_in c.add-sums.result)
    over all c.requires.unpacked c.place-from.ensures.place c.planes.ensures
    (ap (λ (o : Oscillation). o.phase) c.advance-2.ensures) c.replica_sums-more.ensures.sums
    c.add-sums.ensures in
    stays_over settings channel xs ys f _ s (omega (arith, all, c.requires.ends))
    (stays settings channel (take f.at xs) zs f s.now _ c.advance-2.new.self.phase
    (counts_in c.add-sums.result) moves (after.0) _
    (omega (arith, s.now.at.taken, is, c.requires.begun)) refl (after.1) refl
    (ap (λ (o : Oscillation). o.step) c.advance.ensures)
    (ap (λ (o : Oscillation). o.step) c.advance-2.ensures) refl)

pub overflow_add-self : goal.overflow_add-self
overflow_add-self c =
    let f = c.args.self.now in
    let moves : 0 < c.advance.new.self.step =
    rw c.advance.ensures (omega (arith, f.moves)) in
    omega (
      arith,
      c.requires.early,
      end-near c.advance.new.self.phase c.advance.new.self.step c.to_wrap.result moves
          c.to_wrap.ensures.least,
    )

pub invariant_of-self-2 : goal.invariant_of-self-2
invariant_of-self-2 c =
    let f = c.args.self.now in
    let o = c.advance.new.self in
    let w = c.to_wrap.result in
    let wrap = c.to_wrap.ensures in
    let step : o.step ≡ f.code.step = ap (λ (o : Oscillation). o.step) c.advance.ensures in
    record {
      early = c.requires.early;
      waits = omega (arith, wrap.at_least_one);
      in_cycle = begins-low o.phase o.step c.args.to w wrap.at_least_one wrap.least;
      moves = rw step f.moves;
      slow = rw step f.slow;
      small = none-grow _ o.step o.phase refl;
      before = begins-before o.phase o.step c.args.to w wrap.at_least_one wrap.least;
      through = begins-through o.phase o.step c.args.to w wrap.through;
    }

pub returns-clause-goes : goal.returns-clause-goes
returns-clause-goes c settings channel xs ys all over s =
    let f = c.args.self.now in
    let n : ℕ = c.args.to - f.at in
    let w : ℕ = f.ends - f.at in
    let last : w ≡ n = omega (arith, c.requires.ends, c.if-to-self.false) in
    let zs : List Sample = drop f.at (xs ++ ys) in
    let is : n ≡ length zs = many (xs ++ ys) f.at c.args.to all in
    let some : 0 < length zs = omega (arith, is, last, f.waits) in
    let before : f.code.phase + (length zs - 1) * f.code.step < code_cycle =
    low-before f (length zs - 1) (omega (arith, is, last, some)) in
    let after =
    wraps f.code c.advance.new.self n (length zs) w is c.advance.ensures some before f.slow
    f.through last in
    let moves =
    moves_by f (xs ++ ys) c.args.window.now c.planes.result.now c.args.to c.place-from.result
    c.advance-2.new.self.phase (counts_in c.replica_sums-more.result) (counts_in c.add-sums.result)
    over all c.requires.unpacked c.place-from.ensures.place c.planes.ensures
    (ap (λ (o : Oscillation). o.phase) c.advance-2.ensures) c.replica_sums-more.ensures.sums
    c.add-sums.ensures in
    closes_over settings channel xs ys f _ s (omega (arith, all, c.requires.ends))
    (counts_in c.add-sums.result)
    (closes settings channel (take f.at xs) zs f s.now _ c.advance-2.new.self.phase
    (counts_in c.add-sums.result) moves some before (after.0) _
    (omega (arith, s.now.at.taken, is, c.requires.begun)) refl (after.1) refl
    (ap (λ (o : Oscillation). o.step) c.advance.ensures)
    (ap (λ (o : Oscillation). o.step) c.advance-2.ensures) refl)

pub returns-clause-waits : goal.returns-clause-waits
returns-clause-waits c none = absurd (true≢false none)

pub returns-clause-chance : goal.returns-clause-chance
returns-clause-chance c =
    let f = c.args.self.now in
    let n : ℕ = c.args.to - f.at in
    let w : ℕ = f.ends - f.at in
    let last : w ≡ n = omega (arith, c.requires.ends, c.if-to-self.false) in
    let some : 0 < n = omega (arith, last, f.waits) in
    let before : f.code.phase + (n - 1) * f.code.step < code_cycle =
    low-before f (n - 1) (omega (arith, some, last)) in
    let after =
    wraps f.code c.advance.new.self n n w refl c.advance.ensures some before f.slow f.through
    last in
    chance-less f.code.phase f.code.step n _ c.replica_sums-more.ensures.few f.slow (after.0)
    (past_less f.code.phase f.code.step n _ some before (after.0) (after.1))

pub returns-clause-small : goal.returns-clause-small
returns-clause-small c =
    let f = c.args.self.now in
    let n : ℕ = c.args.to - f.at in
    let w : ℕ = f.ends - f.at in
    let last : w ≡ n = omega (arith, c.requires.ends, c.if-to-self.false) in
    let some : 0 < n = omega (arith, last, f.waits) in
    let total : ℕ = f.code.phase + n * f.code.step in
    let grown : GrowWith c.add-sums.result f.code.step total =
    sums_grow f.sums c.add-sums.result (counts_in c.replica_sums-more.result) f.code.step
    f.code.phase n f.small c.replica_sums-more.ensures.small c.add-sums.ensures in
    let low : total < code_cycle + f.code.step =
    last-step f.code.phase n f.code.step some
    (low-before f (n - 1) (omega (arith, some, last))) in
    sums_small c.add-sums.result f.code.step total grown low f.moves

pub returns-then-to-self-clause-at : goal.returns-then-to-self-clause-at
returns-then-to-self-clause-at c = refl

pub returns-then-to-self-clause-waits : goal.returns-then-to-self-clause-waits
returns-then-to-self-clause-waits c _ = refl

pub returns-clause-at : goal.returns-clause-at
returns-clause-at c = refl

pub returns-then-to-self-clause-came : goal.returns-then-to-self-clause-came
returns-then-to-self-clause-came c = (
  λ is. absurd (false≢true is),
  λ far. absurd (omega (arith, far, c.if-to-self.true)),
)

pub returns-clause-came : goal.returns-clause-came
returns-clause-came c = (λ is. omega (arith, c.if-to-self.false), λ far. refl)
