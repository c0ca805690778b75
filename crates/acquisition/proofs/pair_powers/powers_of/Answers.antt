use Rattle.std.proofs.Common.{◌≡◌, ◌<◌, ◌≤◌, ◌∙◌, ℕ, List, arith, refl, length, slice_index}
use Rattle.std.proofs.lemmas.List.{length-set}
use Rattle.acquisition.specs.Pairs.{half_pair, power_of_pair}
use Rattle.acquisition.specs.declared.sums.TheConstants.{MOST_PERIOD_POWER}
use Rattle.acquisition.proofs.FoldLemmas.{entry_in_32}
use Rattle.acquisition.proofs.PowerLemmas.{each-one}
use Rattle.acquisition.proofs.pair_powers.powers_of.Goals as goal

pub loop-l-preserved : goal.loop-l-preserved
loop-l-preserved c =
    let here = c.loop-l.invariant in
    let l : ℕ = c.loop-l.l in
    let powers : List ℕ = c.loop-l.powers in
    let inside : l < length powers = omega (arith, here.long, c.loop-l-test.true) in
    let power : c.power.result
    ≡ power_of_pair (half_pair c.args.whole.halves (slice_index c.args.picked.now l))
    c.args.whole = c.power.ensures.value
    ∙ rw (
      entry_in_32 c.lowered.result (omega (arith, c.lowered.ensures.small)),
      entry_in_32 c.lowered-in-loop-l.result (omega
          (arith, c.lowered-in-loop-l.ensures.small)),
      c.lowered.ensures.value,
      c.lowered-in-loop-l.ensures.value,
    ) refl in
    record {
      long = length-set powers l c.power.result ∙ here.long;
      most = each-one (λ i it. it ≤ MOST_PERIOD_POWER) l c.power.result powers inside
          c.power.ensures.most here.most;
      powers = each-one (λ i it. it ≡ power_of_pair (half_pair c.args.whole.halves
          (slice_index c.args.picked.now i)) c.args.whole) l c.power.result powers inside power
          here.powers;
    }
