use Rattle.std.proofs.Common.{refl, arith}
use Rattle.acquisition.proofs.PowerLemmas.{none_yet}
use Rattle.acquisition.proofs.SoFarLemmas.{so_far-none}
use Rattle.acquisition.specs.declared.plan.TheConstants.{BIN_CELLS}
use Rattle.acquisition.proofs.bin_powers.BinPowers.new.Goals as goal

pub invariant_of-result-clause-most : goal.invariant_of-result-clause-most
invariant_of-result-clause-most c i h = rw (none_yet BIN_CELLS i h) (omega arith)

pub returns-clause-powers : goal.returns-clause-powers
returns-clause-powers c x prn long steps =
    so_far-none x prn long steps _ refl (λ i h. none_yet BIN_CELLS i h)
