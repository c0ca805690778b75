use Rattle.std.proofs.Common.{◌≡◌, length}
use Rattle.recordings.specs.Recordings.{IsTable}
use Rattle.recordings.proofs.recipe.Recipe.table.Given as goal

abbrev pub invariant-loop-byte : goal.invariant-loop-byte
invariant-loop-byte l = record {
  whole : length l.table ≡ 256;
  made : IsTable l.self l.byte l.table;
}
