use Rattle.std.proofs.Common.{rules}
use Rattle.data_sets.proofs.ephemerides.Ephemerides.report.Goals as goal

pub returns-clause-last : goal.returns-clause-last
returns-clause-last c = search rules

pub returns-clause-set : goal.returns-clause-set
returns-clause-set c = search rules
