use Rattle.std.proofs.Common.{rules}
use Rattle.data_sets.proofs.report.Report.values.Goals as goal

pub returns-in-Hlt-clause-numbers : goal.returns-in-Hlt-clause-numbers
returns-in-Hlt-clause-numbers c = search rules
