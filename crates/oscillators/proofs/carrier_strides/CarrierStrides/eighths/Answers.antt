use Rattle.std.proofs.Common.{rules, ◌<◌, ◌^◌, arith, refl, get_or}
use Rattle.std.proofs.lemmas.Simd.{Each1-from_get_or}
use Rattle.oscillators.proofs.EighthLemmas.{eighths_long, eighth_small, eighth_found, rooms_of}
use Rattle.oscillators.proofs.EighthLemmas.{eighths_of, highs}
use Rattle.oscillators.proofs.carrier_strides.CarrierStrides.eighths.Goals as goal

pub overflow_cast-result : goal.overflow_cast-result
overflow_cast-result c =
    let s = c.args.self.now in
    let long = eighths_long c.args.phase s.high c.carries-carried.result s.lanes.0
    c.carries-carried.ensures.long in
    Each1-from_get_or _ (eighths_of (highs s.high c.args.phase c.carries-carried.result)) 0 (λ k h.
    let small : get_or (eighths_of (highs s.high c.args.phase c.carries-carried.result)) k 0 < 8 =
    eighth_small c.args.phase s.high c.carries-carried.result s.lanes.0
    c.carries-carried.ensures.long k (omega (arith, h, long)) in
    search (rules, small))

pub returns-clause-eighths : goal.returns-clause-eighths
returns-clause-eighths c step is k h =
    let s = c.args.self.now in
    let short : c.args.phase < 2 ^ 32 = search (rules, c.ranges) in
    eighth_found c.args.phase s.high c.carries-carried.result s.lanes.0
    c.carries-carried.ensures.long s step refl is short
    (λ j below. c.carries-carried.ensures.carried _ (rooms_of s step s.lanes.1 is) j below) k h
