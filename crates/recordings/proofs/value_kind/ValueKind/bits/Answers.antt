use Rattle.std.proofs.Common.{rules}
use Rattle.recordings.proofs.value_kind.ValueKind.bits.Goals as goal

pub returns-in-Bits2Low : goal.returns-in-Bits2Low
returns-in-Bits2Low c = search rules
