use Rattle.std.proofs.Common.{◌≡◌, length, take, map}
use Rattle.definitions.specs.Fields.{value_of}
use Rattle.subframes.specs.Entries.{entry_of}
use Rattle.subframes.proofs.page.values.Given as goal

abbrev pub invariant-loop-i : goal.invariant-loop-i
invariant-loop-i g l =
    (length l.values ≡ length l.fields) × (take l.i l.values
    ≡ map (λ field. value_of l.subframe (entry_of field)) (take l.i l.fields))
