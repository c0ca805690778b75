use Rattle.std.proofs.Common.{◌≡◌, ◌∙◌, ◌+◌, ◌-◌, ◌*◌, ◌/◌, ◌<◌, sym, arith, refl, ℕ}
use Rattle.definitions.specs.Samples.{sample_at}
use Rattle.definitions.specs.Correlation.{Phases}
use Rattle.lane_correlator.specs.Counting.{counts_in}
use Rattle.lane_correlator.specs.ReplicaWords.{phases_of, placed}
use Rattle.lane_correlator.specs.RangeSums.{HasSumsOf}
use Rattle.lane_correlator.proofs.LoopLemmas.{none_of, joined_of}
use Rattle.lane_correlator.proofs.SumLemmas.{sums_fit}
use Rattle.lane_correlator.proofs.ReplicaLemmas.{sums_from}
use Rattle.lane_correlator.proofs.StandLemmas.{stand_first, fewer_words}
use Rattle.lane_correlator.proofs.AddingLemmas.{goes_none, goes_both}
use Rattle.lane_correlator.proofs.with_replica.replica_sums.Goals as goal

pub loop-here-init : goal.loop-here-init
loop-here-init c =
    let phases : Phases = phases_of c.words.result c.words-2.result in
    record {
      from = omega arith;
      to = omega (arith, c.min-to.ensures, c.len.ensures.count, c.requires);
      goes = λ more. goes_none (c.args.from / 64) _;
      sums = none_of (sample_at c.args.samples.now)
          (placed c.args.prn phases (64 * (c.args.from / 64))) c.args.from _ refl;
    }

pub sums-more-requires : goal.sums-more-requires
sums-more-requires c = record {
  some = omega (
    arith,
    c.min-next.ensures,
    c.loop-here-test.true,
    c.words_of_lanes-most.ensures.some,
  );
  inside = omega (arith, c.min-next.ensures, c.min-to.ensures, c.len.ensures.count);
  short = omega (
    arith,
    c.min-next.ensures,
    c.min-to.ensures,
    c.len.ensures.count,
    c.len.ensures.most,
  );
  few = fewer_words c.args.samples.now _ c.words_of_lanes-most.result
      (omega (arith, c.min-next.ensures, c.loop-here-test.true))
      c.words_of_lanes-most.ensures.room;
}

-- the sums of a turn of the loop
turn : (c : goal.After-more-1) → HasSumsOf (sample_at c.args.samples.now)
    (placed c.args.prn (phases_of c.words.result c.words-2.result) (64 * (c.args.from / 64)))
    c.loop-here.here c.min-next.result (counts_in c.sums-more.result)
turn c =
    let i = c.loop-here.invariant in
    let goes = i.goes c.loop-here-test.true in
    let phases : Phases = phases_of c.words.result c.words-2.result in
    rw goes.prn at (c.sums-more.ensures.sums.are (c.args.from / 64) phases
    (omega (arith, i.from)) (goes.stand (c.args.from / 64) phases (omega arith)
    (stand_first c.words.result c.words-2.result (c.args.from / 64))))

pub add-counts-requires : goal.add-counts-requires
add-counts-requires c =
    let here : ℕ = c.loop-here.here in
    let next : ℕ = c.min-next.result in
    sums_fit (9 * (here - c.args.from)) (9 * (next - here)) _ _ c.loop-here.invariant.sums.small
    (turn c).small
    (omega (arith, c.min-next.ensures, c.min-to.ensures, c.len.ensures.most, c.loop-here-test.true))

pub loop-here-preserved : goal.loop-here-preserved
loop-here-preserved c =
    let from : ℕ = c.args.from in
    let here : ℕ = c.loop-here.here in
    let next : ℕ = c.min-next.result in
    let i = c.loop-here.invariant in
    let phases : Phases = phases_of c.words.result c.words-2.result in
    let on : here < next =
    omega (arith, c.min-next.ensures, c.loop-here-test.true, c.words_of_lanes-most.ensures.some) in
    let goes = i.goes c.loop-here-test.true in
    record {
      from = omega (arith, i.from, on);
      to = omega (arith, c.min-next.ensures);
      goes = λ more.
          let word : (next + 63) / 64 ≡ next / 64 = omega (arith, c.min-next.ensures, more) in
          rw word at (goes_both (from / 64) (here / 64) ((next + 63) / 64) _ _ _
          (omega (arith, i.from)) goes c.sums-more.ensures.moved);
      sums = joined_of (sample_at c.args.samples.now) (placed c.args.prn phases (64 * (from / 64)))
          from here next _ _ _ i.from (omega (arith, on)) i.sums (turn c.before)
          c.add-counts.ensures;
    }

pub returns-clause-sums : goal.returns-clause-sums
returns-clause-sums c =
    let from : ℕ = c.args.from in
    let to : ℕ = from + c.args.count in
    let i = c.loop-here.invariant in
    let all : c.loop-here.here ≡ to = omega (
      arith,
      i.to,
      c.loop-here-test.false,
      c.min-to.ensures,
      c.len.ensures.count,
      c.requires,
    ) in
    let many : to - from ≡ c.args.count = omega arith in
    let phases : Phases = phases_of c.words.result c.words-2.result in
    rw all at i.sums.sums
    ∙ rw many at (sums_from (sample_at c.args.samples.now) c.args.prn from to phases
    (phases_of c.args.carrier.now c.args.code.now)
    (sym c.words.ensures.step) (sym c.words-2.ensures.step)
    c.words.ensures.now c.words-2.ensures.now)
