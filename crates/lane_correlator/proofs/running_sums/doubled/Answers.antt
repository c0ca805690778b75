use Rattle.std.proofs.Common.{◌<◌, ℕ, refl, arith, w8}
use Rattle.std.proofs.lemmas.Simd.{SwzOk-from_below, Each1-from_get_or}
use Rattle.lane_correlator.proofs.RunningLemmas.{doubled_long, doubled_sums}
use Rattle.lane_correlator.proofs.running_sums.doubled.Goals as goal

pub swizzle-further : goal.swizzle-further
swizzle-further c = SwzOk-from_below w8 16 4 64 0 c.args.on refl (omega (arith, c.requires.on.long))
    (Each1-from_get_or (λ (j : ℕ). j < 16) c.args.on 0
    (λ i h. c.requires.on.few i (omega (arith, c.requires.on.long, h))))

pub returns-clause-long : goal.returns-clause-long
returns-clause-long c = doubled_long c.args.sums c.args.on c.args.have c.requires.long
    c.requires.on.long c.requires.have

pub returns-clause-sums : goal.returns-clause-sums
returns-clause-sums c n bytes on have are = doubled_sums c.args.sums c.args.on c.args.have n
    c.requires.long c.requires.on.long c.requires.have on have bytes are
