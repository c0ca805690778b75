use Rattle.std.proofs.Common.{◌≡◌, ◌≤◌, ◌∙◌, ◌+◌, ◌-◌, ◌*◌, ◌<◌, ap, arith, refl, ℕ, length}
use Rattle.std.specs.Prelude.{min, max}
use Rattle.definitions.specs.Samples.{sample_at}
use Rattle.definitions.specs.Correlation.{Replica, Phases}
use Rattle.oscillators.specs.Views.{Oscillation}
use Rattle.lane_correlator.specs.Chips.{AreMasksOfChips}
use Rattle.lane_correlator.specs.ReplicaWords.{AreOf, StandAt, placed, phases_of, IsMostProduct}
use Rattle.lane_correlator.specs.ByteSums.{IsWiped}
use Rattle.lane_correlator.specs.Tallies.{tally_in, word_sums, AddsWord}
use Rattle.lane_correlator.specs.Adding.{AddsWords, HasRoom, first_word, word_end}
use Rattle.lane_correlator.proofs.WordLemmas.{IsRunWord, run_word, HasMost, most_of}
use Rattle.lane_correlator.proofs.LoopLemmas.{none_before, word_more, all_words}
use Rattle.lane_correlator.proofs.LoopLemmas.{all_reached}
use Rattle.lane_correlator.proofs.ReplicaLemmas.{lanes_of_placed, masks_of_chips, eighths_below}
use Rattle.lane_correlator.proofs.StandLemmas.{stand_on, stand_first}
use Rattle.lane_correlator.proofs.AddingLemmas.{one_more_word, room_first}
use Rattle.lane_correlator.proofs.replica.WordReplica.sums_of_words.Goals as goal

pub new-wiped-requires-clause-cycle : goal.new-wiped-requires-clause-cycle
new-wiped-requires-clause-cycle c = eighths_below _ _ _ c.next_eighths-eighths.ensures.eighths

-- the word that a turn of the loop adds
word : (c : goal.After-next_chips-chips) (p : Phases) (first most : ℕ)
    → first ≤ first_word c.args.part.now
    → IsMostProduct c.args.part.now.samples.now most
    → StandAt p first (first_word c.args.part.now) c.args.self.now.carrier c.args.self.now.code
    → IsRunWord c.args.part.now.samples.now (placed c.args.self.now.prn p (64 * first)) c.loop-w.w
    (max c.args.part.now.from (64 * c.loop-w.w) - 64 * c.loop-w.w)
    (min c.args.part.now.to (64 * c.loop-w.w + 64) - 64 * c.loop-w.w) most
    c.next_chips-chips.result c.within-within.result
word c p first most h is_most at =
    let w : ℕ = c.loop-w.w in
    let from : ℕ = c.args.part.now.from in
    let to : ℕ = c.args.part.now.to in
    let begin : ℕ = max from (64 * w) - 64 * w in
    let end : ℕ = min to (64 * w + 64) - 64 * w in
    let r : Replica = placed c.args.self.now.prn p (64 * first) in
    let i = c.loop-w.invariant in
    let some = c.requires.part in
    let stands : StandAt p first w c.loop-w.self.carrier c.loop-w.self.code =
    i.goes.stand first p h at in
    let inside : 64 * w < to = omega (arith, c.loop-w-test.true, some.some) in
    let ordered : begin ≤ end = omega (arith, inside, i.begun, some.some) in
    let few : end ≤ 64 = omega arith in
    let reach : 64 * w + end ≤ length c.args.part.now.samples.now =
    omega (arith, some.inside, inside) in
    let chips = c.next_chips-chips.ensures.chips c.args.self.now.prn c.table-table.ensures in
    let of : AreOf r (64 * w) c.next_eighths-eighths.result c.next_chips-chips.result =
    lanes_of_placed c.args.self.now.prn p first w c.loop-w.self.carrier.phase
    c.loop-w.self.code.phase c.next_eighths-eighths.result c.next_chips-chips.result
    (omega (arith, h, i.begun)) stands.carrier_is stands.code_is
    (rw stands.carrier_step_is at c.next_eighths-eighths.ensures.eighths)
    (rw stands.code_step_is at chips) in
    let masks : AreMasksOfChips c.next_chips-chips.result = masks_of_chips _ _ _ _ chips in
    let wiped : IsWiped c.args.part.now.samples.now w c.next_eighths-eighths.result
    c.new-wiped.result =
    c.new-wiped.ensures.wiped c.args.part.now.samples.now w c.codes.ensures.codes
    c.codes_q.ensures.codes c.codes_q.ensures.real in
    run_word c.args.part.now.samples.now r w begin end c.next_eighths-eighths.result
    c.codes.result c.codes_q.result c.next_chips-chips.result c.new-wiped.result
    c.within-within.result most is_most ordered few reach c.codes.ensures.codes
    c.codes_q.ensures.codes c.codes_q.ensures.real of masks wiped
    c.within-within.ensures.in_phase c.within-within.ensures.quadrature

pub add-tally-requires-clause-masks : goal.add-tally-requires-clause-masks
add-tally-requires-clause-masks c =
    masks_of_chips _ _ _ _
    (c.next_chips-chips.ensures.chips c.args.self.now.prn c.table-table.ensures)

-- the word in lanes that have room for it
added : (c : goal.After-add-tally) (p : Phases) (first n most : ℕ)
    → first ≤ first_word c.args.part.now
    → HasRoom c.args.part.now (first_word c.args.part.now) (c.loop-w.w + 1) n most
    c.none-tally.result
    → StandAt p first (first_word c.args.part.now) c.args.self.now.carrier c.args.self.now.code
    → AddsWord (n + (c.loop-w.w - first_word c.args.part.now) * (2 * most) + 2 * most)
    c.within-within.result c.next_chips-chips.result c.loop-w.tally c.add-tally.result
added c p first n most h room at =
    let part = c.args.part.now in
    let a : ℕ = first_word part in
    let w : ℕ = c.loop-w.w in
    let i = c.loop-w.invariant in
    let one = word c.before p first most h room.product at in
    c.add-tally.ensures (n + (w - a) * (2 * most)) most
    (rw (one_more_word a w n (2 * most) i.begun) room.room)
    (i.adds.low n most
    (room_first part a w (w + 1) n most c.none-tally.result i.begun (omega arith) room))
    one.in_phase one.quadrature

pub loop-w-preserved : goal.loop-w-preserved
loop-w-preserved c =
    let part = c.args.part.now in
    let a : ℕ = first_word part in
    let w : ℕ = c.loop-w.w in
    let i = c.loop-w.invariant in
    let some = c.requires.part.some in
    let ordered : part.from ≤ part.to = omega (arith, some) in
    let inside : 64 * w < part.to = omega (arith, c.loop-w-test.true, some) in
    record {
      begun = omega (arith, i.begun);
      goes = record {
        stand = λ first p h at.
            stand_on p first w c.loop-w.self.carrier c.loop-w.self.code _ _
            (omega (arith, h, i.begun)) (i.goes.stand first p h at)
            c.next_eighths-eighths.ensures.moved c.next_chips-chips.ensures.moved;
        step = ap (λ (o : Oscillation). o.step) c.next_chips-chips.ensures.moved ∙ i.goes.step;
        prn = i.goes.prn;
      };
      adds = record {
        low = λ n most room.
            let carrier : Oscillation = c.args.self.now.carrier in
            let code : Oscillation = c.args.self.now.code in
            rw (one_more_word a w n (2 * most) i.begun) at (added c (phases_of carrier code) a n
            most (omega arith) room (stand_first carrier code a)).low;
        sums = λ first n most p room h at before.
            word_more (sample_at part.samples.now) (placed c.args.self.now.prn p (64 * first))
            part.from part.to w (max part.from (64 * w) - 64 * w)
            (min part.to (64 * w + 64) - 64 * w) (tally_in c.loop-w.tally)
            (word_sums c.within-within.result c.next_chips-chips.result)
            (tally_in c.add-tally.result) ordered (omega (arith, i.begun)) inside refl refl
            (i.adds.sums first n most p
            (room_first part a w (w + 1) n most c.none-tally.result i.begun (omega arith) room)
            h at before)
            (word c.before p first most h room.product at).sums
            (added c p first n most h room at).sums;
      };
    }

pub returns-clause-moved : goal.returns-clause-moved
returns-clause-moved c =
    let last : c.loop-w.w ≡ word_end c.args.part.now =
    all_reached c.args.part.now.from c.args.part.now.to c.loop-w.w c.requires.part.some
    c.loop-w-test.false c.loop-w.auto.w-end in
    rw last at c.loop-w.invariant.goes

pub returns-clause-sums : goal.returns-clause-sums
returns-clause-sums c =
    let last : c.loop-w.w ≡ word_end c.args.part.now =
    all_reached c.args.part.now.from c.args.part.now.to c.loop-w.w c.requires.part.some
    c.loop-w-test.false c.loop-w.auto.w-end in
    let part = c.args.part.now in
    let a : ℕ = first_word part in
    let e : ℕ = word_end part in
    let few : HasMost part.samples.now (e - a) =
    most_of part.samples.now (e - a) c.requires.part.few in
    let room : HasRoom part a e 0 few.most c.none-tally.result = record {
      product = few.is;
      low = c.none-tally.ensures.low;
      room = omega (arith, few.fits);
    } in
    let ordered : part.from ≤ part.to = omega (arith, c.requires.part.some) in
    let adds : AddsWords part a e c.args.self.now c.none-tally.result c.loop-w.tally =
    rw last at c.loop-w.invariant.adds in
    record {
      are = λ first p h at.
          rw c.counts.ensures.sums
          (all_words (sample_at part.samples.now) (placed c.args.self.now.prn p (64 * first))
          part.from part.to e (tally_in c.loop-w.tally) ordered (omega arith)
          (adds.sums first 0 few.most p room h at
          (none_before (sample_at part.samples.now) (placed c.args.self.now.prn p (64 * first))
          part.from part.to (tally_in c.none-tally.result) ordered c.none-tally.ensures.sums)));
    }
