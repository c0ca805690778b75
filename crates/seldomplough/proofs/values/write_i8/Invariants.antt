use Rattle.std.proofs.Common.{◌≡◌, take}
use Rattle.seldomplough.specs.Packings.{bytes_of_i8}
use Rattle.seldomplough.proofs.values.write_i8.Given as goal

abbrev pub invariant-loop-value : goal.invariant-loop-value
invariant-loop-value l = record {
  so_far : l.written.items ≡ bytes_of_i8 (take l.value-index l.values);
}
