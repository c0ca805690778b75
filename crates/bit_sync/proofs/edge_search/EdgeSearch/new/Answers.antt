use Rattle.std.proofs.Common.{refl}
use Rattle.std.proofs.lemmas.List.{get_or-replicate}
use Rattle.definitions.specs.Sums.{least_below}
use Rattle.definitions.specs.BitEdge.{edge_of, reset_up_to}
use Rattle.bit_sync.specs.Changes.{sign_of_last, changes_since_reset}
use Rattle.bit_sync.proofs.edge_search.EdgeSearch.new.Goals as goal

pub returns : goal.returns
unfolding edge_of least_below sign_of_last changes_since_reset reset_up_to
returns c =
    record {
      no_edge = refl;
      place = refl;
      last = refl;
      changes = λ at below. get_or-replicate 20 at 0 0 below;
    }
