use Rattle.std.proofs.Common.{arith}
use Rattle.acquisition.specs.Folds.{in_phase_at, quadrature_at}
use Rattle.acquisition.proofs.TableLemmas.{table-none}
use Rattle.acquisition.proofs.fold.Fold.new.Goals as goal

pub returns : goal.returns
returns c = record {
  none = λ x step carrier_step from. record {
    in_phase = table-none (in_phase_at x carrier_step) step from c.new.result.sums
        c.new.ensures.none;
    quadrature = table-none (quadrature_at x carrier_step) step from c.new-2.result.sums
        c.new-2.ensures.none;
  };
  room = record {
    in_phase = omega (arith, c.new.ensures.sizes);
    quadrature = omega (arith, c.new-2.ensures.sizes);
  };
}
