use Rattle.std.proofs.Common.{◌≡◌, ◌+◌, ◌*◌, ◌/◌, ◌%◌, ◌^◌, ◌<◌, ◌≤◌, ◌∙◌, ℕ, refl, ap, arith}
use Rattle.std.proofs.Math.Nat.{mul-le-mul, le_refl, div-mul-le_self}
use Rattle.definitions.specs.Oscillators.{code_cycle}
use Rattle.acquisition.specs.declared.half_chip_walk.TheConstants.{HALF_CHIP}
use Rattle.acquisition.proofs.half_chip_walk.HalfChipWalk.go_on.Goals as goal

-- as many whole steps as there are in a half chip, and the one before them, where all lie in it
there : (next way step whole j : ℕ) → next < code_cycle → way ≡ whole * step → j < whole + 1
    → (next + way) / HALF_CHIP ≡ next / HALF_CHIP
    → (next + j * step) % code_cycle / 2 ^ 31 ≡ next / HALF_CHIP
there next way step whole j cycle is below same =
    let less : j * step ≤ whole * step =
    mul-le-mul (omega (arith, below)) (le_refl step) in
    omega (arith, cycle, is, less, same)

-- fewer steps than that from less than a step into a half chip
before : (next way step whole j : ℕ) → next < code_cycle → way ≡ whole * step
    → whole * step ≤ HALF_CHIP → next % HALF_CHIP < step → j < whole
    → (next + j * step) % code_cycle / 2 ^ 31 ≡ next / HALF_CHIP
before next way step whole j cycle is most first below =
    let less : (j + 1) * step ≤ whole * step =
    mul-le-mul (omega (arith, below)) (le_refl step) in
    omega (arith, cycle, most, first, less)

pub returns-then-far-place : goal.returns-then-far-place
returns-then-far-place c =
    let w = c.args.self.now in
    record {
      by_step = refl;
      here = λ j h. there w.next w.whole_way w.step w.whole j w.cycle w.way h
          c.if-far-place.true;
      next = c.in_cycle-self.ensures ∙ ap (λ (m : ℕ). m % code_cycle) (omega (arith, w.way));
    }

pub returns-else-far-place : goal.returns-else-far-place
returns-else-far-place c =
    let w = c.args.self.now in
    record {
      by_step = refl;
      here = λ j h. before w.next w.whole_way w.step w.whole j w.cycle w.way
          (rw w.most (div-mul-le_self HALF_CHIP w.step)) w.first h;
      next = c.in_cycle-self-else-far-place.ensures
          ∙ ap (λ (m : ℕ). m % code_cycle) (omega (arith, w.way));
    }
