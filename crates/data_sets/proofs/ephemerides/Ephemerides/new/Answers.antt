use Rattle.std.proofs.Common.{refl}
use Rattle.definitions.specs.DataSets.{last_reported}
use Rattle.data_sets.proofs.ephemerides.Ephemerides.new.Goals as goal

pub returns : goal.returns
unfolding last_reported
returns c = record { last = c.new.ensures; reported = refl }
