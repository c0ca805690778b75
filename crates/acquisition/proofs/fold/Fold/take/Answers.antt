use Rattle.std.proofs.Common.{◌≡◌, ◌<◌, ◌+◌, ◌*◌, ◌∙◌, ℕ, length, ap, refl, arith}
use Rattle.std.specs.Prelude.{min}
use Rattle.definitions.specs.Samples.{Sample, sample_at}
use Rattle.definitions.specs.Oscillators.{code_phase_after, carrier_phase_after}
use Rattle.oscillators.specs.Views.{Oscillation}
use Rattle.acquisition.specs.FoldStates.{AreWiped}
use Rattle.acquisition.specs.Walks.{IsAt}
use Rattle.acquisition.proofs.PlaceLemmas.{code-goes_on, carrier-goes_on}
use Rattle.acquisition.proofs.RunLemmas.{room_less}
use Rattle.acquisition.proofs.fold.Fold.take.Goals as goal

-- the words before this one are whole, and with it the run goes on
whole : (c : goal.After-take_word)
    → min (64 * c.loop-w.w) (length c.args.samples.now) ≡ 64 * c.loop-w.w
whole c = omega (arith, c.loop-w-test.true, c.len.ensures.count)

reached : (c : goal.After-take_word)
    → min (64 * (c.loop-w.w + 1)) (length c.args.samples.now)
    ≡ 64 * c.loop-w.w + c.min-count.result
reached c = omega (
  arith,
  c.loop-w-test.true,
  c.len.ensures.count,
  c.len-in-loop-w.ensures.count,
  c.min-count.ensures,
)

-- the products of a word, by the samples that the run stands for
wiped : (c : goal.After-take_word) (x : ℕ → Sample) (from n : ℕ)
    → c.args.carrier.now.phase ≡ carrier_phase_after 0 c.args.carrier.now.step (from + n)
    → ((j : ℕ) → j < length c.args.samples.now
    → sample_at c.args.samples.now j ≡ x (from + n + j))
    → AreWiped x c.args.carrier.now.step (from + (n + 64 * c.loop-w.w)) c.min-count.result
    c.new-products.result
wiped c x from n carrier_first same = record {
  in_phase = λ j h.
      c.new-products.ensures.products.in_phase j (short j h) (inside j h)
      ∙ rw (phase_is j, sample_is j h) refl;
  quadrature = λ j h.
      c.new-products.ensures.products.quadrature j (short j h) (inside j h)
      ∙ rw (phase_is j, sample_is j h) refl;
}
  where
    w : ℕ
    w = c.loop-w.w

    step : ℕ
    step = c.args.carrier.now.step

    short : (j : ℕ) → j < c.min-count.result → j < 64
    short j h = omega (arith, h, c.min-count.ensures)

    inside : (j : ℕ) → j < c.min-count.result → 64 * w + j < length c.args.samples.now
    inside j h = omega (arith, h, c.min-count.ensures, c.len-in-loop-w.ensures.count)

    at : (j : ℕ) → from + n + (64 * w + j) ≡ from + (n + 64 * w) + j
    at j = omega arith

    phase_is : (j : ℕ) → carrier_phase_after c.loop-w.words.phase c.loop-w.words.step j
        ≡ carrier_phase_after 0 step (from + (n + 64 * w) + j)
    phase_is j =
        carrier-goes_on 0 c.loop-w.words.phase step c.loop-w.words.step (from + n + 64 * w) j
        c.loop-w.invariant.words_step (c.loop-w.invariant.words_phase
        ∙ carrier-goes_on 0 c.args.carrier.now.phase step step (from + n) (64 * w) refl
        carrier_first)
        ∙ ap (carrier_phase_after 0 step) (on j)
      where
        on : (j : ℕ) → from + n + 64 * w + j ≡ from + (n + 64 * w) + j
        on j = omega arith

    sample_is : (j : ℕ) → j < c.min-count.result
        → sample_at c.args.samples.now (64 * w + j) ≡ x (from + (n + 64 * w) + j)
    sample_is j h = same (64 * w + j) (inside j h) ∙ ap x (at j)

pub take_word-requires-clause-room : goal.take_word-requires-clause-room
take_word-requires-clause-room c =
    let before : ℕ = min (64 * c.loop-w.w) (length c.args.samples.now) in
    c.loop-w.invariant.room c.min-count.result
    (room_less (before + c.min-count.result) (length c.args.samples.now) c.args.self.now (omega (
      arith,
      c.loop-w-test.true,
      c.len.ensures.count,
      c.len-in-loop-w.ensures.count,
      c.min-count.ensures,
    )) c.requires.room)

pub loop-w-preserved : goal.loop-w-preserved
loop-w-preserved c =
    let here = c.loop-w.invariant in
    let a = c.args in
    let w : ℕ = c.loop-w.w in
    let count : ℕ = c.min-count.result in
    let phase : ℕ = code_phase_after a.code a.step (64 * w) in
    let walk : IsAt phase a.step c.loop-w.walk = rw (whole c) at here.walk in
    let on : code_phase_after phase a.step count ≡ code_phase_after a.code a.step (64 * w + count) =
    code-goes_on a.code phase a.step a.step (64 * w) count refl refl in
    let next : 64 * w + 64 ≡ 64 * (w + 1) = omega arith in
    record {
      walk = rw (reached c, ← on) (c.take_word.ensures.walk phase a.step walk);
      words_step = ap (λ (o : Oscillation). o.step) c.new-products.ensures.moved
          ∙ here.words_step;
      words_phase = ap (λ (o : Oscillation). o.phase) c.new-products.ensures.moved
          ∙ carrier-goes_on a.carrier.now.phase c.loop-w.words.phase a.carrier.now.step
          c.loop-w.words.step (64 * w) 64 here.words_step here.words_phase
          ∙ ap (carrier_phase_after a.carrier.now.phase a.carrier.now.step) next;
      room = λ n has.
          let e : 64 * w + count + n ≡ min (64 * w) (length a.samples.now) + (count + n) =
          omega (arith, whole c) in
          c.take_word.ensures.room n (here.room (count + n) (rw (reached c, e) at has));
      fold = λ x from n is here_at same.
          let e : n + 64 * w + count ≡ n + (64 * w + count) = omega arith in
          let at : from + n + 64 * w ≡ from + (n + 64 * w) = omega arith in
          let stands : phase ≡ code_phase_after 0 a.step (from + (n + 64 * w)) =
          code-goes_on 0 a.code a.step a.step (from + n) (64 * w) refl here_at.code_is
          ∙ ap (code_phase_after 0 a.step) at in
          rw (reached c, ← e) (c.take_word.ensures.fold x a.step a.carrier.now.step from
          (n + 64 * w) (rw (← whole c) (here.fold x from n is here_at same))
          (rw stands at walk) (wiped c x from n here_at.carrier_is same));
    }

-- the loop ends once the run is done
end : (c : goal.After-loop-w)
    → min (64 * c.loop-w.w) (length c.args.samples.now) ≡ length c.args.samples.now
end c = omega (arith, c.loop-w-test.false, c.len.ensures.count)

pub returns : goal.returns
returns c = record {
  fold = λ x from n is here_at same.
      rw (end c) at (c.loop-w.invariant.fold x from n is here_at same);
  room = λ n has. c.loop-w.invariant.room n (rw (end c) has);
}
