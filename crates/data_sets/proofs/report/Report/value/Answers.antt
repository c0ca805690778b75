use Rattle.std.proofs.Common.{rules}
use Rattle.data_sets.proofs.report.Report.value.Goals as goal

pub returns-in_ok-place-in-Eph : goal.returns-in_ok-place-in-Eph
returns-in_ok-place-in-Eph c = search rules
