use Rattle.std.proofs.Common.{rules}
use Rattle.acquisition.proofs.period_sums.PeriodSums.powers.Goals as goal

pub powers_by_pairs-requires-clause-small : goal.powers_by_pairs-requires-clause-small
powers_by_pairs-requires-clause-small c = search rules
