use Rattle.std.proofs.Common.{arith, refl}
use Rattle.lane_correlator.proofs.replica.RunPart.within.Goals as goal

pub returns-clause-quadrature : goal.returns-clause-quadrature
returns-clause-quadrature c =
    rw (← c.max.ensures, ← c.min.ensures) c.within.ensures.quadrature

pub returns-then-w-whole-clause-in_phase : goal.returns-then-w-whole-clause-in_phase
returns-then-w-whole-clause-in_phase c =
    record {
      inside = λ j low high. refl;
      before = λ j below short. absurd (omega (arith, c.if-w-whole.true, c.requires.short, below));
      behind = λ j above short. absurd (omega (arith, c.if-w-whole.true, c.requires.short, above));
    }
