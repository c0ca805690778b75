use Rattle.std.proofs.Common.{sym, ap}
use Rattle.std.specs.Prelude.{is_some}
use Rattle.bit_sync.specs.Standing.{StandsFor}
use Rattle.bit_sync.proofs.bit_sync.BitSync.has_edge.Goals as goal

pub returns-in-Searching : goal.returns-in-Searching
unfolding StandsFor
returns-in-Searching c pushes h = sym (ap is_some (rw c.in-Searching.is at h).no_edge)

pub returns-in-Summing : goal.returns-in-Summing
unfolding StandsFor
returns-in-Summing c pushes h = sym (ap is_some (rw c.in-Summing.is at h).edge_is)
