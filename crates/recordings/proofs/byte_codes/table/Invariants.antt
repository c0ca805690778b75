use Rattle.std.proofs.Common.{◌≡◌, length}
use Rattle.recordings.specs.Recordings.{IsCodeTable, part_in}
use Rattle.recordings.proofs.byte_codes.table.Given as goal

abbrev pub invariant-loop-byte : goal.invariant-loop-byte
invariant-loop-byte l = record {
  whole : length l.table ≡ 256;
  made : IsCodeTable l.recipe (part_in l.recipe l.is_quadrature) l.byte l.table;
}
