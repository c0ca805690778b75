use Rattle.std.proofs.Common.{◌≡◌, ◌+◌, ◌-◌, ◌*◌, ◌/◌, ◌%◌, ◌^◌, ◌<◌, ◌≤◌, ◌∙◌, ℕ, ap, arith}
use Rattle.std.specs.Int.{div_ceil}
use Rattle.std.proofs.lemmas.Grind.{div_ceil_times}
use Rattle.std.proofs.Math.Nat.{mul-le-mul, le_refl}
use Rattle.definitions.specs.Oscillators.{code_cycle}
use Rattle.acquisition.specs.declared.half_chip_walk.TheConstants.{HALF_CHIP}
use Rattle.acquisition.proofs.half_chip_walk.HalfChipWalk.new.Goals as goal

-- the samples before as many steps as reach the next half chip
here : (code step left j : ℕ) → code < code_cycle → 0 < step
    → left ≡ div_ceil (HALF_CHIP - code % HALF_CHIP) step → j < left
    → (code + j * step) % code_cycle / 2 ^ 31 ≡ code / HALF_CHIP
here code step left j cycle moving is below =
    let some : ℕ = HALF_CHIP - code % HALF_CHIP in
    let short : left * step < some + step = rw is (div_ceil_times some step moving).1 in
    let less : (j + 1) * step ≤ left * step = mul-le-mul (omega (arith, below)) (le_refl step) in
    omega (arith, cycle, short, less)

pub returns : goal.returns
returns c =
    let code : ℕ = c.args.code in
    let step : ℕ = c.args.step in
    record {
      by_step = c.from-step.ensures;
      here = λ j h. here code step c.div_ceil-left.result j c.requires.code c.requires.moving
          (rw c.from-step.ensures at c.div_ceil-left.ensures) h;
      next = c.in_cycle.ensures
          ∙ ap (λ (s : ℕ). (code + c.div_ceil-left.result * s) % code_cycle) c.from-step.ensures;
    }
