use Rattle.std.proofs.Common.{◌≡◌, ◌<◌, ◌+◌, ◌*◌, ◌%◌, ◌∙◌, ℕ, refl, pos}
use Rattle.std.proofs.Common.{slice_index}
use Rattle.std.specs.Prelude.{ℤ, ◌-ℤ◌, ◌*ℤ◌}
use Rattle.definitions.specs.Acquisition.{power_over}
use Rattle.definitions.specs.Correlation.{replica_of}
use Rattle.definitions.specs.Samples.{Sample}
use Rattle.acquisition.specs.PeriodStates.{AreSumsOf}
use Rattle.acquisition.specs.Pairs.{half_pair, power_of_pair}
use Rattle.acquisition.specs.Replicas.{phases}
use Rattle.acquisition.specs.Rings.{IsPairAtOnes}
use Rattle.acquisition.specs.Twos.{HasPairs}
use Rattle.acquisition.specs.declared.chip_ring.TheConstants.{RAISED}
use Rattle.acquisition.proofs.CellLemmas.{is_cell_sum, ones_of, small_sum, table_sizes, IsCellSum}
use Rattle.acquisition.proofs.FoldLemmas.{fold_power}
use Rattle.acquisition.proofs.PairLemmas.{pair_is, IsPairOf}
use Rattle.acquisition.proofs.period_sums.PeriodSums.powers_by_pairs.Goals as goal

-- the power from the pair of cell number i
power : (c : goal.After-powers_of) (i lane : ℕ) → i < 64
    → ((first second : ℕ → ℕ) → HasPairs first second c.args.self.now.first.one.chips
    → IsPairAtOnes c.args.ones.now first second c.args.half i lane)
    → (x : ℕ → Sample) (step carrier_step from n : ℕ)
    → AreSumsOf x step carrier_step from n c.args.self.now
    → power_of_pair (half_pair c.raised_whole-whole.result.halves lane) c.raised_whole-whole.result
    ≡ power_over x
    (replica_of c.args.ones.now.prn (phases (c.args.half + i) step carrier_step)) from (from + n)
power c i lane inside at x step carrier_step from n of =
    let sums = c.args.self.now in
    let ones = c.args.ones.now in
    let whole = c.raised_whole-whole.ensures in
    let count : ℕ = ones_of ones in
    let rings = of.rings.pairs c.requires.small in
    let is : IsPairAtOnes ones (slice_index rings.first_ring) (slice_index rings.second_ring)
    c.args.half i lane = at _ _ rings.are_paired in
    let first : ℤ = sums.whole.in_phase -ℤ pos 2 *ℤ (pos is.of_first -ℤ pos (RAISED * count))
    in
    let second : ℤ =
    sums.whole.quadrature -ℤ pos 2 *ℤ (pos is.of_second -ℤ pos (RAISED * count)) in
    let at_first : IsCellSum ones.prn (c.args.half + i) of.fold.in_phase.sums first =
    is_cell_sum ones c.args.half i is.of_first of.fold.in_phase.sums rings.first_ring
    sums.whole.in_phase first c.requires.half inside (table_sizes of.fold.in_phase)
    rings.is_first of.whole.in_phase
    is.is_first refl in
    let at_second : IsCellSum ones.prn (c.args.half + i) of.fold.quadrature.sums second =
    is_cell_sum ones c.args.half i is.of_second of.fold.quadrature.sums rings.second_ring
    sums.whole.quadrature second c.requires.half inside (table_sizes of.fold.quadrature)
    rings.is_second of.whole.quadrature
    is.is_second refl in
    let small = of.small c.requires.small in
    let pair : IsPairOf (half_pair c.raised_whole-whole.result.halves lane) (whole.in_phase % 2)
    (whole.quadrature % 2) first second =
    pair_is first second sums.whole.in_phase sums.whole.quadrature count is.of_first
    is.of_second whole.in_phase whole.quadrature c.raised_whole-whole.result.halves lane
    (small_sum ones.prn (c.args.half + i) of.fold.in_phase.sums first at_first small.in_phase)
    (small_sum ones.prn (c.args.half + i) of.fold.quadrature.sums second at_second
    small.quadrature) refl refl whole.is_in_phase whole.is_quadrature
    (rw c.count.ensures.value at whole.are_halves) is.is_pair in
    rw (whole.in_phase_rest, whole.quadrature_rest, pair.is_first, pair.is_second)
    (fold_power x ones.prn (c.args.half + i) step carrier_step from n of.fold first second
    of.is_fold at_first.value at_second.value)

pub returns-clause-powers : goal.returns-clause-powers
returns-clause-powers c x step carrier_step from n fold l h =
    c.powers_of.ensures.powers l h ∙ power c l _ h
    (λ first second has. c.at_ones-picked.ensures.sums first second has l h) x step carrier_step
    from n fold
