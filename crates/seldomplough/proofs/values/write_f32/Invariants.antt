use Rattle.std.proofs.Common.{◌≡◌, ◌*◌, take, length}
use Rattle.seldomplough.specs.Packings.{bytes_of_f32}
use Rattle.seldomplough.proofs.values.write_f32.Given as goal

abbrev pub invariant-loop-value : goal.invariant-loop-value
invariant-loop-value l = record {
  so_far : l.written.items ≡ bytes_of_f32 (take l.value-index l.values);
  size : length l.written.items ≡ 4 * l.value-index;
}
