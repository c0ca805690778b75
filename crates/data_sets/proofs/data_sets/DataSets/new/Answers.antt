use Rattle.data_sets.specs.Standing.{StandsFor}
use Rattle.data_sets.proofs.data_sets.DataSets.new.Goals as goal

pub returns : goal.returns
unfolding StandsFor
returns c = (c.new.ensures, c.new-2.ensures)
