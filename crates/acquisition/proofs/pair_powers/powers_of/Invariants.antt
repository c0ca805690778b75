use Rattle.std.proofs.Common.{◌≡◌, ◌<◌, ◌≤◌, ℕ, slice_index, length}
use Rattle.acquisition.specs.Pairs.{half_pair, power_of_pair}
use Rattle.acquisition.specs.declared.sums.TheConstants.{MOST_PERIOD_POWER}
use Rattle.acquisition.proofs.pair_powers.powers_of.Given as goal

abbrev pub invariant-loop-l : goal.invariant-loop-l
invariant-loop-l l = record {
  long : length l.powers ≡ 64;
  most : (i : ℕ) → i < l.l → slice_index l.powers i ≤ MOST_PERIOD_POWER;
  powers : (i : ℕ) → i < l.l → slice_index l.powers i
      ≡ power_of_pair (half_pair l.whole.halves (slice_index l.picked i)) l.whole;
}
