use Rattle.std.proofs.Common.{◌≡◌, ◌*◌, length}
use Rattle.definitions.specs.Samples.{samples, samples_per_byte}
use Rattle.recordings.specs.Recordings.{packing_in, samples_of}
use Rattle.recordings.proofs.recipe.Recipe.pack_groups.Given as goal

abbrev pub invariant-loop-i : goal.invariant-loop-i
invariant-loop-i g l = record {
  count : length l.written.items ≡ l.i;
  same : samples (packing_in l.self) l.written.items
      ≡ samples_of l.self l.bytes (samples_per_byte (packing_in l.self) * l.i);
}
