use Rattle.std.proofs.Common.{rules}
use Rattle.acquisition.proofs.plan.Plan.new.Goals as goal

pub returns-then-threshold-lt1-clause-dwell : goal.returns-then-threshold-lt1-clause-dwell
returns-then-threshold-lt1-clause-dwell c = search rules
