use Rattle.std.proofs.Common.{◌∙◌, sym, arith}
use Rattle.acquisition.proofs.tally.PowerTally.take_bin.Goals as goal

pub loop-i-preserved : goal.loop-i-preserved
loop-i-preserved c =
    let here = c.loop-i.invariant in
    record {
      done = omega (arith, here.done, c.take.ensures.done);
      tallies = λ powers are old. c.take.ensures.tallies powers
          (rw here.done (are c.loop-i.i c.loop-i-test.true ∙ sym c.power.ensures.value))
          (here.tallies powers are old);
    }
