use Rattle.std.proofs.Common.{rules}
use Rattle.data_sets.proofs.report.Report.fields.Goals as goal

pub returns-in-Utc : goal.returns-in-Utc
returns-in-Utc c = search rules
