use Rattle.std.proofs.Common.{rules}
use Rattle.std.proofs.Common.{refl}
use Rattle.definitions.specs.DataSets.{last_reported}
use Rattle.data_sets.specs.Standing.{last_almanacs, almanac_values}
use Rattle.data_sets.proofs.almanacs.Almanacs.new.Goals as goal

pub returns : goal.returns
unfolding last_almanacs almanac_values last_reported
returns c = record { last = refl; reported = refl; long = refl; whole = search rules }
