use Rattle.std.proofs.Common.{sym, ap, ◌∙◌}
use Rattle.definitions.specs.BitEdge.{has_edge}
use Rattle.channels.proofs.LockedLemmas.{no-edge, none-unlocked}
use Rattle.channels.proofs.locked_message.LockedMessage.has_edge.Goals as goal

pub returns-in-None : goal.returns-in-None
returns-in-None c dumps h =
    sym (ap has_edge (none-unlocked dumps (rw c.in-None.is at h)) ∙ no-edge)
