use Rattle.std.proofs.Common.{inl, inr, ◌≡◌, ◌<◌, ◌≤◌, ◌+◌, ◌*◌, ◌∙◌, ℕ, List, get_or, length}
use Rattle.std.proofs.Common.{ap, arith}
use Rattle.std.specs.Prelude.{◌⊎◌}
use Rattle.std.proofs.lemmas.List.{get_or-set_same, get_or-set_other, length-set}
use Rattle.acquisition.specs.Periods.{periods_of}
use Rattle.acquisition.specs.declared.sums.TheConstants.{MOST_PERIOD_POWER}
use Rattle.acquisition.proofs.bin_powers.BinPowers.add.Goals as goal

pub invariant_of-self-clause-most : goal.invariant_of-self-clause-most
invariant_of-self-clause-most c i h = omega (arith, c.args.self.now.most i h)

same_or_not : (a b : ℕ) → (a ≡ b) ⊎ (a ≡ b → ⊥)
same_or_not a b = grind arith

pub invariant_of-self-in-loop-l-clause-long : goal.invariant_of-self-in-loop-l-clause-long
invariant_of-self-in-loop-l-clause-long c =
    length-set c.loop-l.self.powers (c.args.cell + c.loop-l.l) _ ∙ c.loop-l.self.long

-- the power of the cell of this turn, with one period more
pub invariant_of-self-in-loop-l-clause-most : goal.invariant_of-self-in-loop-l-clause-most
invariant_of-self-in-loop-l-clause-most c i h =
    let old = c.args.self.now in
    let here = c.loop-l.self in
    let at : ℕ = c.args.cell + c.loop-l.l in
    let inside : at < length here.powers = omega
    (arith, here.long, c.loop-l-test.true, c.requires.within) in
    let so_far : get_or here.powers at 0 ≤ MOST_PERIOD_POWER * periods_of at old.added = omega (
      arith,
      c.loop-l.invariant.after at (omega arith),
      old.most at (omega (arith, inside, here.long)),
    ) in
    let one : periods_of at here.added ≡ periods_of at old.added + 1 = omega
    (arith, c.loop-l.invariant.added, c.requires.cell, c.loop-l-test.true, c.requires.within) in
    elim (same_or_not i at) [
      | inl same ↦ rw (same, get_or-set_same here.powers at _ 0 inside)
          (omega (
            arith,
            so_far,
            one,
            c.requires.most c.loop-l.l (omega
                (arith, c.loop-l-test.true, c.requires.lanes)),
          ))
      | inr other ↦ rw (get_or-set_other here.powers at i _ 0 other) (here.most i h)
    ]

pub loop-l-preserved : goal.loop-l-preserved
loop-l-preserved c =
    let here = c.loop-l.invariant in
    let powers : List ℕ = c.loop-l.self.powers in
    let cell : ℕ = c.args.cell in
    let l : ℕ = c.loop-l.l in
    let inside : cell + l < length powers = omega
    (arith, c.loop-l.self.long, c.loop-l-test.true, c.requires.within) in
    record {
      added = here.added;
      sums = here.sums;
      powers = λ k h. elim (same_or_not k l) [
        | inl same ↦ rw same (get_or-set_same powers (cell + l) _ 0 inside
            ∙ ap (λ (n : ℕ). n + get_or c.args.powers.now l 0)
            (here.after (cell + l) (omega arith)))
        | inr other ↦ get_or-set_other powers (cell + l) (cell + k) _ 0
            (λ e. other (omega (arith, e))) ∙ here.powers k (omega (arith, h, other))
      ];
      before = λ i h. get_or-set_other powers (cell + l) i _ 0 (λ e. absurd (omega (arith, h, e)))
          ∙ here.before i h;
      after = λ i h. get_or-set_other powers (cell + l) i _ 0 (λ e. absurd (omega (arith, h, e)))
          ∙ here.after i (omega (arith, h));
    }
