use Rattle.definitions.specs.Sums.{least_below}
use Rattle.definitions.specs.BitEdge.{edge_of, bits_of}
use Rattle.definitions.specs.Frames.{starts_of, starts_from}
use Rattle.definitions.specs.Events.{pages_among}
use Rattle.nav_message.proofs.message.Message.new.Goals as goal

pub returns-clause-stands : goal.returns-clause-stands
unfolding bits_of edge_of least_below pages_among starts_of starts_from
returns-clause-stands c = record {
  bits = c.new.ensures;
  frames = c.new-2.ensures;
  sets = c.new-3.ensures;
}
