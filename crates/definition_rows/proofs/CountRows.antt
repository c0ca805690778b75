-- Worked examples of what a life prints.
use Rattle.std.proofs.Common.{◌≡◌, [], ◌∷◌, refl}
use Rattle.std.specs.Prelude.{pos}
use Rattle.definitions.specs.Correlation.{Counts}
use Rattle.definitions.specs.Commands.{hold}
use Rattle.definitions.specs.Events.{unprinted_count}

-- `counts` at the time of a dump doesn't touch that dump
abbrev no_sums : Counts
no_sums = record { ie = pos 0; qe = pos 0; ip = pos 0; qp = pos 0; il = pos 0; ql = pos 0 }

left_to_print : unprinted_count (record {
  begun = 0;
  start = hold 1 (pos 0) 0;
  wanted = 2;
  wanted_from = 5;
}) (record { time = 5; counts = no_sums } ∷ record { time = 6; counts = no_sums } ∷ []) ≡ 1
unfolding unprinted_count
left_to_print = refl
