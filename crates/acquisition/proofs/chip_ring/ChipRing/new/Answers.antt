use Rattle.std.proofs.lemmas.List.{get_or-replicate}
use Rattle.std.proofs.Common.{ℕ}
use Rattle.acquisition.specs.declared.chip_ring.TheConstants.{RING}
use Rattle.acquisition.proofs.chip_ring.ChipRing.new.Goals as goal

pub returns : goal.returns
returns c i h = get_or-replicate {A = ℕ} RING i _ 0 h
