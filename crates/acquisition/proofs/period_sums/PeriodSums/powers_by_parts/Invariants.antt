use Rattle.std.proofs.Common.{◌≡◌, ◌≤◌, ◌+◌, ℕ, length}
use Rattle.definitions.specs.Acquisition.{power_over}
use Rattle.definitions.specs.Correlation.{replica_of}
use Rattle.definitions.specs.Samples.{Sample}
use Rattle.acquisition.specs.PeriodStates.{AreSumsOf}
use Rattle.acquisition.specs.Replicas.{phases}
use Rattle.acquisition.specs.declared.sums.TheConstants.{MOST_PERIOD_POWER}
use Rattle.acquisition.proofs.PowerLemmas.{AreEach}
use Rattle.acquisition.proofs.period_sums.PeriodSums.powers_by_parts.Given as goal

abbrev pub invariant-loop-l : goal.invariant-loop-l
invariant-loop-l l = record {
  long : length l.powers ≡ 64;
  most : AreEach (λ i power. power ≤ MOST_PERIOD_POWER) l.l l.powers;
  powers : (x : ℕ → Sample) (step carrier_step from n : ℕ)
      → AreSumsOf x step carrier_step from n l.self → AreEach (λ i power. power ≡ power_over x
      (replica_of l.ones.prn (phases (l.half + i) step carrier_step)) from (from + n)) l.l
      l.powers;
}
