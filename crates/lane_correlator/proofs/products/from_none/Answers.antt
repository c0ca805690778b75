use Rattle.std.proofs.Common.{◌≡◌, ◌+◌, ℕ, replicate, arith}
use Rattle.std.proofs.lemmas.Simd.{get_or-put_chunk_at, get_or-put_chunk_above}
use Rattle.lane_correlator.proofs.products.from_none.Goals as goal

pub returns-clause-sums : goal.returns-clause-sums
returns-clause-sums c k h =
    let at : 0 + k ≡ k = omega arith in
    rw at at (get_or-put_chunk_at {X = ℕ} 0 (replicate 65 0) c.args.sums k 0
    (omega (arith, h, c.requires)) (omega (arith, c.requires)))

pub returns-clause-none : goal.returns-clause-none
returns-clause-none c =
    get_or-put_chunk_above {X = ℕ} 0 (replicate 65 0) c.args.sums 64 0 (omega (arith, c.requires))
