use Rattle.std.proofs.Common.{ℕ, refl, replicate}
use Rattle.std.proofs.lemmas.List.{get_or-replicate}
use Rattle.lane_correlator.proofs.RunningLemmas.{sums_long, whole_sums, running}
use Rattle.lane_correlator.proofs.running_sums.running_sums.Goals as goal

pub returns-clause-long : goal.returns-clause-long
returns-clause-long c = sums_long c.sums_in_sixteens-sums.result c.sums_before.result
    c.sums_in_sixteens-sums.ensures.long c.sums_before.ensures.long

pub returns-clause-sums : goal.returns-clause-sums
returns-clause-sums c =
    let sums = c.sums_in_sixteens-sums in
    running c.args.bytes sums.result c.sums_before.result sums.ensures.long
    c.sums_before.ensures.long sums.ensures.sums
    (c.sums_before.ensures.sums c.args.bytes
    (whole_sums c.args.bytes sums.result (replicate 64 0) refl
    (λ k h. get_or-replicate {A = ℕ} 64 k 0 0 h) sums.ensures.sums))
