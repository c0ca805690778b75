use Rattle.std.proofs.Common.{◌<◌, ℕ, arith, ◌∙◌, rules}
use Rattle.oscillators.specs.Halves.{place}
use Rattle.oscillators.proofs.OrderLemmas.{place_below, ordered_lane}
use Rattle.oscillators.proofs.CarryLemmas.{ordered_signed, half_fits}
use Rattle.oscillators.proofs.carrier_strides.CarrierStrides.new.Goals as goal

pub returns : goal.returns
returns c =
    let i = c.loop-k.invariant in
    let all : (k : ℕ) → k < 64 → k < c.loop-k.k = λ k h. omega (arith, h, c.loop-k-test.false) in
    record {
      high = λ k h. ordered_lane c.loop-k.high k i.high_long h
          ∙ i.high (place k) (all (place k) (place_below k h));
      room = λ k h.
          ordered_signed c.loop-k.room k _ i.room_long h
          (i.room (place k) (all (place k) (place_below k h))) (half_fits _ (omega arith));
    }

pub loop-k-preserved : goal.loop-k-preserved
loop-k-preserved c = search rules
