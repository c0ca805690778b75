use Rattle.std.proofs.Common.{rules}
use Rattle.slot_protocol.proofs.answer.Phase.of.Goals as goal

pub returns-in_default-true-clause-edge : goal.returns-in_default-true-clause-edge
returns-in_default-true-clause-edge c = search rules
