use Rattle.std.proofs.Common.{ℕ, ◌+◌, ◌∙◌, ◌++◌, get_or, arith}
use Rattle.std.proofs.lemmas.List.{get_or_append_left}
use Rattle.std.proofs.lemmas.List.FromFn.{get_or-map-range_with_len}
use Rattle.lane_correlator.proofs.lane_sums.high_half.Goals as goal

pub returns-clause-lanes : goal.returns-clause-lanes
returns-clause-lanes c k h =
    get_or-map-range_with_len (λ (i : ℕ). get_or (c.args.lanes ++ c.args.lanes) i 0) 32 32 k
    (32 + k) 0 h (omega arith)
    ∙ get_or_append_left c.args.lanes c.args.lanes 0 (32 + k) (omega (arith, c.requires))
