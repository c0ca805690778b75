use Rattle.std.proofs.Common.{◌≡◌, ◌+◌, ◌-◌, ◌/◌, ◌^◌, ◌∙◌, ℕ, refl, sym, ap, arith}
use Rattle.definitions.specs.Oscillators.{code_phase_after}
use Rattle.acquisition.proofs.PlaceLemmas.{code-goes_on}
use Rattle.acquisition.proofs.half_chip_walk.HalfChipWalk.pass.Goals as goal

pub returns-then-len-self : goal.returns-then-len-self
returns-then-len-self c phase step at =
    let len : ℕ = c.args.len in
    let left : ℕ = c.args.self.now.left in
    let on : (j : ℕ) → code_phase_after (code_phase_after phase step len) step j
    ≡ code_phase_after phase step (len + j) =
    λ j. code-goes_on phase (code_phase_after phase step len) step step len j refl refl in
    let all : len + (left - len) ≡ left = omega (arith, c.requires) in
    record {
      by_step = at.by_step;
      here = λ j h. ap (λ (p : ℕ). p / 2 ^ 31) (on j) ∙ at.here (len + j) (omega (arith, h));
      next = at.next ∙ ap (code_phase_after phase step) (sym all) ∙ sym (on (left - len));
    }
