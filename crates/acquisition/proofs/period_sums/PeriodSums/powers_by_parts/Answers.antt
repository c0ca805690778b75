use Rattle.std.proofs.Common.{◌≡◌, ◌≤◌, ◌<◌, ◌+◌, ◌∙◌, ℕ, List, arith, refl}
use Rattle.std.proofs.Common.{length, slice_index}
use Rattle.std.proofs.lemmas.List.{length-set}
use Rattle.definitions.specs.Acquisition.{power_over}
use Rattle.definitions.specs.Correlation.{replica_of}
use Rattle.definitions.specs.Samples.{Sample}
use Rattle.acquisition.specs.PeriodStates.{AreSumsOf}
use Rattle.acquisition.specs.Replicas.{phases}
use Rattle.acquisition.specs.Rings.{cell_sum}
use Rattle.acquisition.specs.declared.sums.TheConstants.{MOST_PERIOD_POWER}
use Rattle.acquisition.proofs.CellLemmas.{is_cell_sum, ones_of, part_cell, part_small}
use Rattle.acquisition.proofs.CellLemmas.{table_sizes, IsCellSum}
use Rattle.acquisition.proofs.FoldLemmas.{entry_in_32, fold_power}
use Rattle.acquisition.proofs.PowerLemmas.{each-one}
use Rattle.acquisition.proofs.period_sums.PeriodSums.powers_by_parts.Goals as goal

pub less_twice-requires-clause-picked : goal.less_twice-requires-clause-picked
less_twice-requires-clause-picked c =
    let sums = c.args.self.now in
    (part_cell c.args.ones.now sums.first.one.chips c.at_ones-in_phase.result sums.whole.in_phase
    c.args.half c.loop-l.l c.requires.half c.loop-l-test.true
    (sums.in_phase_part c.requires.great) sums.in_phase_most c.at_ones-in_phase.ensures.sums).most

pub less_twice-requires-in-loop-l-clause-picked : goal.less_twice-requires-in-loop-l-clause-picked
less_twice-requires-in-loop-l-clause-picked c =
    let sums = c.args.self.now in
    (part_cell c.args.ones.now sums.second.one.chips c.at_ones-quadrature.result
    sums.whole.quadrature c.args.half c.loop-l.l c.requires.half c.loop-l-test.true
    (sums.quadrature_part c.requires.great) sums.quadrature_most
    c.at_ones-quadrature.ensures.sums).most

-- the sums of the next cell
in_phase_is : (c : goal.After-less_twice-in-loop-l) → c.less_twice.result ≡ cell_sum
    c.args.self.now.whole.in_phase (slice_index c.at_ones-in_phase.result c.loop-l.l)
    (ones_of c.args.ones.now)
in_phase_is c =
    let sums = c.args.self.now in
    c.less_twice.ensures
    ∙ rw (entry_in_32 sums.whole.in_phase sums.in_phase_most, c.count.ensures.value) refl

quadrature_is : (c : goal.After-less_twice-in-loop-l) → c.less_twice-in-loop-l.result ≡ cell_sum
    c.args.self.now.whole.quadrature (slice_index c.at_ones-quadrature.result c.loop-l.l)
    (ones_of c.args.ones.now)
quadrature_is c =
    let sums = c.args.self.now in
    c.less_twice-in-loop-l.ensures
    ∙ rw (entry_in_32 sums.whole.quadrature sums.quadrature_most, c.count.ensures.value) refl

pub power-requires-clause-in_phase : goal.power-requires-clause-in_phase
power-requires-clause-in_phase c =
    let sums = c.args.self.now in
    part_small c.args.ones.now sums.first.one.chips c.at_ones-in_phase.result sums.whole.in_phase
    c.less_twice.result c.args.half c.loop-l.l c.requires.half c.loop-l-test.true
    (sums.in_phase_part c.requires.great) sums.in_phase_most c.at_ones-in_phase.ensures.sums
    (in_phase_is c)

pub power-requires-clause-quadrature : goal.power-requires-clause-quadrature
power-requires-clause-quadrature c =
    let sums = c.args.self.now in
    part_small c.args.ones.now sums.second.one.chips c.at_ones-quadrature.result
    sums.whole.quadrature c.less_twice-in-loop-l.result c.args.half c.loop-l.l c.requires.half
    c.loop-l-test.true (sums.quadrature_part c.requires.great) sums.quadrature_most
    c.at_ones-quadrature.ensures.sums (quadrature_is c)

-- the power of the next cell, over the samples of which the sums are
next : (c : goal.After-power) (x : ℕ → Sample) (step carrier_step from n : ℕ)
    → AreSumsOf x step carrier_step from n c.args.self.now → c.power.result ≡ power_over x
    (replica_of c.args.ones.now.prn (phases (c.args.half + c.loop-l.l) step carrier_step)) from
    (from + n)
next c x step carrier_step from n of =
    let sums = c.args.self.now in
    let ones = c.args.ones.now in
    let l : ℕ = c.loop-l.l in
    let few : l < 64 = c.loop-l-test.true in
    let great = c.requires.great in
    let at_i = part_cell ones sums.first.one.chips c.at_ones-in_phase.result sums.whole.in_phase
    c.args.half l c.requires.half few (sums.in_phase_part great) sums.in_phase_most
    c.at_ones-in_phase.ensures.sums in
    let at_q = part_cell ones sums.second.one.chips c.at_ones-quadrature.result
    sums.whole.quadrature c.args.half l c.requires.half few (sums.quadrature_part great)
    sums.quadrature_most c.at_ones-quadrature.ensures.sums in
    let in_phase : IsCellSum ones.prn (c.args.half + l) of.fold.in_phase.sums c.less_twice.result =
    is_cell_sum ones c.args.half l _ of.fold.in_phase.sums sums.first.one.chips
    sums.whole.in_phase c.less_twice.result c.requires.half few (table_sizes of.fold.in_phase)
    (of.rings.in_phase great) of.whole.in_phase at_i.sum (in_phase_is c.before) in
    let quadrature : IsCellSum ones.prn (c.args.half + l) of.fold.quadrature.sums
    c.less_twice-in-loop-l.result =
    is_cell_sum ones c.args.half l _ of.fold.quadrature.sums sums.second.one.chips
    sums.whole.quadrature c.less_twice-in-loop-l.result c.requires.half few
    (table_sizes of.fold.quadrature) (of.rings.quadrature great) of.whole.quadrature at_q.sum
    (quadrature_is c.before) in
    let kept_i = entry_in_32 c.less_twice.result in_phase.small in
    let kept_q = entry_in_32 c.less_twice-in-loop-l.result quadrature.small in
    c.power.ensures.value
    ∙ rw (kept_i, kept_q) (fold_power x ones.prn (c.args.half + l) step carrier_step from n of.fold
    c.less_twice.result c.less_twice-in-loop-l.result of.is_fold in_phase.value quadrature.value)

pub loop-l-preserved : goal.loop-l-preserved
loop-l-preserved c =
    let here = c.loop-l.invariant in
    let l : ℕ = c.loop-l.l in
    let powers : List ℕ = c.loop-l.powers in
    let inside : l < length powers = omega (arith, here.long, c.loop-l-test.true) in
    record {
      long = length-set powers l c.power.result ∙ here.long;
      most = each-one (λ i it. it ≤ MOST_PERIOD_POWER) l c.power.result powers inside
          c.power.ensures.most here.most;
      powers = λ x step carrier_step from n of. each-one (λ i it. it ≡ power_over x
          (replica_of c.args.ones.now.prn (phases (c.args.half + i) step carrier_step)) from
          (from + n)) l c.power.result powers inside (next c x step carrier_step from n of)
          (here.powers x step carrier_step from n of);
    }
