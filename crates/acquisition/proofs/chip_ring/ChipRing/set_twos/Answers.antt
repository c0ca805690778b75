use Rattle.std.proofs.Common.{◌%◌, ◌^◌, slice_index, arith, rules}
use Rattle.acquisition.specs.Rings.{with_next}
use Rattle.acquisition.proofs.RingLemmas.{put_next}
use Rattle.acquisition.proofs.chip_ring.ChipRing.set_twos.Goals as goal

pub loop-i-preserved : goal.loop-i-preserved
loop-i-preserved c = put_next c.loop-i.self.chips c.loop-i.i _
    (λ j. with_next (slice_index c.args.one.now.chips) j % 2 ^ 32)
    (omega (arith, c.loop-i.self.long, c.loop-i-test.true)) c.loop-i.invariant (search rules)
