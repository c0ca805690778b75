-- The powers of a bin's cells so far, and some more of them.
use Rattle.std.proofs.Common.{inl, inr, ◌≡◌, ℕ, ◌+◌, ◌-◌, ◌*◌, ◌/◌, ◌%◌, ◌<◌, ◌≤◌, List, ◌∙◌, arith}
use Rattle.std.proofs.Common.{refl}
use Rattle.std.specs.Prelude.{get_or, ◌⊎◌}
use Rattle.definitions.specs.Samples.{Sample}
use Rattle.definitions.specs.Correlation.{Replica, replica_of}
use Rattle.definitions.specs.Acquisition.{power_over}
use Rattle.acquisition.specs.PeriodStates.{AreSumsOf}
use Rattle.acquisition.specs.Periods.{periods_of}
use Rattle.acquisition.specs.Powers.{AreSoFar}
use Rattle.acquisition.specs.Replicas.{phases}
use Rattle.acquisition.specs.declared.bin_powers.BinPowers.{BinPowers}
use Rattle.acquisition.specs.declared.bin_steps.Steps.{Steps}
use Rattle.acquisition.specs.declared.period_sums.PeriodSums.{PeriodSums}
use Rattle.acquisition.proofs.PowerLemmas.{power-none, power-more}
use Rattle.acquisition.specs.declared.plan.TheConstants.{BIN_CELLS}

-- over how many periods a cell's power is
pub periods-none : (cell : ℕ) → periods_of cell 0 ≡ 0
periods-none cell = omega arith

pub periods-all : (cell added periods : ℕ) → cell < BIN_CELLS → added ≡ BIN_CELLS * periods
    → periods_of cell added ≡ periods
periods-all cell added periods inside all = omega (arith, inside, all)

-- a run of powers, from a cell on
pub record IsRun (added cell count : ℕ) : Type 0 where
  pub from : cell ≡ added % BIN_CELLS
  pub within : cell + count ≤ BIN_CELLS

pub periods-there : (added cell count l : ℕ) → IsRun added cell count → l < count
    → periods_of (cell + l) added ≡ added / BIN_CELLS
periods-there added cell count l run inside = omega (arith, run.from, run.within, inside)

pub periods-more : (added cell count l : ℕ) → IsRun added cell count → l < count
    → periods_of (cell + l) (added + count) ≡ added / BIN_CELLS + 1
periods-more added cell count l run inside = omega (arith, run.from, run.within, inside)

pub periods-before : (added cell count i : ℕ) → IsRun added cell count → i < cell
    → periods_of i (added + count) ≡ periods_of i added
periods-before added cell count i run before = omega (arith, run.from, run.within, before)

pub periods-after : (added cell count i : ℕ) → IsRun added cell count → cell + count ≤ i
    → i < BIN_CELLS
    → periods_of i (added + count) ≡ periods_of i added
periods-after added cell count i run after inside =
    omega (arith, run.from, run.within, after, inside)

pub three : (i cell count : ℕ)
    → (i < cell) ⊎ ((cell + count ≤ i) ⊎ ((cell ≤ i) × (i < cell + count)))
three i cell count = grind arith

-- none of them
pub so_far-none : (x : ℕ → Sample) (prn long : ℕ) (steps : Steps) (bin : BinPowers) → bin.added ≡ 0
    → ((i : ℕ) → i < BIN_CELLS → get_or bin.powers i 0 ≡ 0) → AreSoFar x prn long steps bin
so_far-none x prn long steps bin none zeros = record {
  powers = λ cell inside. zeros cell inside
      ∙ rw (none, periods-none cell)
      (power-none x (replica_of prn (phases cell steps.code steps.carrier)) long);
  sums = λ some. absurd (omega (arith, none, some));
}

-- some more
pub so_far-more : (x : ℕ → Sample) (prn long : ℕ) (steps : Steps) (old new : BinPowers)
    (sums : PeriodSums) (cell count : ℕ) (more : List ℕ) → IsRun old.added cell count
    → AreSumsOf x steps.code steps.carrier (old.added / BIN_CELLS * long) long sums
    → ((l : ℕ) → l < count → get_or more l 0 ≡ power_over x
    (replica_of prn (phases (cell + l) steps.code steps.carrier)) (old.added / BIN_CELLS * long)
    (old.added / BIN_CELLS * long + long))
    → ((l : ℕ) → l < count → get_or new.powers (cell + l) 0
    ≡ get_or old.powers (cell + l) 0 + get_or more l 0)
    → ((i : ℕ) → i < cell → get_or new.powers i 0 ≡ get_or old.powers i 0)
    → ((i : ℕ) → cell + count ≤ i → get_or new.powers i 0 ≡ get_or old.powers i 0)
    → new.added ≡ old.added + count → new.sums ≡ sums → AreSoFar x prn long steps old
    → AreSoFar x prn long steps new
so_far-more x prn long steps old new sums cell count more run folded powers there before after
    added same so_far = record {
      powers = λ i inside. elim (three i cell count) [
        | inl early ↦ before i early ∙ so_far.powers i inside
            ∙ rw (added, periods-before old.added cell count i run early) refl
        | inr rest ↦ elim rest [
          | inl late ↦ after i late ∙ so_far.powers i inside
              ∙ rw (added, periods-after old.added cell count i run late inside) refl
          | inr (from, to) ↦
              let l : ℕ = i - cell in
              let few : l < count = omega (arith, from, to) in
              let at : cell + l ≡ i = omega (arith, from) in
              let replica : Replica = replica_of prn (phases i steps.code steps.carrier) in
              rw at at (there l few)
              ∙ power-more x replica long (old.added / BIN_CELLS) (get_or old.powers i 0)
              (get_or more l 0)
              (so_far.powers i inside ∙ rw (rw at at (periods-there old.added cell count l run few))
              refl) (rw at at (powers l few))
              ∙ rw (added, rw at at (periods-more old.added cell count l run few)) refl
        ]
      ];
      sums = λ some.
          let here : new.added / BIN_CELLS ≡ old.added / BIN_CELLS =
          omega (arith, added, run.from, run.within, rw added at some) in
          rw (here, same) folded;
    }
