use Rattle.std.proofs.Common.{arith}
use Rattle.acquisition.proofs.CellLemmas.{is_part}
use Rattle.acquisition.proofs.TableLemmas.{total_size}
use Rattle.acquisition.specs.declared.half_chip_table.TheConstants.{HALF_CHIPS}
use Rattle.acquisition.proofs.period_sums.PeriodSums.fill.Goals as goal

pub invariant_of-self-clause-in_phase_most : goal.invariant_of-self-clause-in_phase_most
invariant_of-self-clause-in_phase_most g c =
    let table = c.fill.new.self.in_phase in
    rw c.whole-self.ensures.in_phase
    (omega (arith, total_size HALF_CHIPS table.sums, table.small))

pub invariant_of-self-clause-quadrature_most : goal.invariant_of-self-clause-quadrature_most
invariant_of-self-clause-quadrature_most g c =
    let table = c.fill.new.self.quadrature in
    rw c.whole-self.ensures.quadrature
    (omega (arith, total_size HALF_CHIPS table.sums, table.small))

pub invariant_of-self-clause-in_phase_small : goal.invariant_of-self-clause-in_phase_small
invariant_of-self-clause-in_phase_small g c is =
    rw c.whole-self.ensures.in_phase (omega (
      arith,
      total_size HALF_CHIPS c.fill.new.self.in_phase.sums,
      (c.is_small-self.ensures.0 is).in_phase,
    ))

pub invariant_of-self-clause-quadrature_small : goal.invariant_of-self-clause-quadrature_small
invariant_of-self-clause-quadrature_small g c is =
    rw c.whole-self.ensures.quadrature (omega (
      arith,
      total_size HALF_CHIPS c.fill.new.self.quadrature.sums,
      (c.is_small-self.ensures.0 is).quadrature,
    ))

pub invariant_of-self-clause-in_phase_part : goal.invariant_of-self-clause-in_phase_part
invariant_of-self-clause-in_phase_part g c great =
    is_part c.fill.new.self.in_phase _ _ (c.set_rings.ensures.in_phase great)
    c.whole-self.ensures.in_phase

pub invariant_of-self-clause-quadrature_part : goal.invariant_of-self-clause-quadrature_part
invariant_of-self-clause-quadrature_part g c great =
    is_part c.fill.new.self.quadrature _ _ (c.set_rings.ensures.quadrature great)
    c.whole-self.ensures.quadrature

pub returns : goal.returns
returns g c x same = record {
  fold = c.fill.new.self;
  is_fold = c.fill.ensures x same;
  whole = c.whole-self.ensures;
  small = c.is_small-self.ensures.0;
  rings = c.set_rings.ensures;
}
