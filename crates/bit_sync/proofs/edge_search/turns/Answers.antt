use Rattle.std.proofs.Common.{◌≡◌, Bool, true, false, refl}
use Rattle.std.specs.Prelude.{not}
use mathlib.Core.Bool.{xor}
use Rattle.std.proofs.Math.Bool.{beq}
use Rattle.bit_sync.proofs.edge_search.turns.Goals as goal

differ : (a b : Bool) → not (beq a b) ≡ xor a b
unfolding xor
differ true true = refl
differ true false = refl
differ false true = refl
differ false false = refl

pub returns-in-Some : goal.returns-in-Some
returns-in-Some c = rw c.in-Some.is (differ c.in-Some.last c.args.is_negative)
