use Rattle.std.proofs.Common.{ℕ, Fits, w8, arith, rules, get_or}
use Rattle.lane_correlator.proofs.DifferenceLemmas.{sum_in_32}
use Rattle.lane_correlator.proofs.products.Products.in_phase.Goals as goal

pub returns : goal.returns
returns c =
    let byte : (k : ℕ) → Fits w8 (get_or c.args.self.now.in_phase k 0) = search rules in
    rw (c.difference.ensures) (sum_in_32 c.args.self.now.in_phase c.args.first c.args.end
    (λ k. omega (arith, byte k)) c.requires.ordered c.requires.few
    (λ j from before. c.args.self.now.small j (omega (arith, before, c.requires.end))))
