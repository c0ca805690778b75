use Rattle.std.proofs.Common.{◌≡◌, ◌≤◌, ◌<◌, ◌+◌, ◌*◌, ◌/◌, ◌%◌, ◌∙◌, ℕ, List, ap, refl, rules}
use Rattle.std.proofs.Common.{arith}
use Rattle.std.proofs.Math.Nat.{mul-le-mul_right, zero-mul}
use Rattle.std.specs.Prelude.{get_or, slice_set}
use Rattle.std.proofs.lemmas.List.{get_or-set_same}
use Rattle.definitions.specs.Acquisition.{Plan, power_of, dwell_end}
use Rattle.definitions.specs.Oscillators.{Settings, samples_per_ms}
use Rattle.definitions.specs.Samples.{Sample, sample_at}
use Rattle.sample_planes.specs.Sources.{AreSamplesOf}
use Rattle.acquisition.specs.Powers.{AreSoFar}
use Rattle.acquisition.specs.declared.bin_powers.BinPowers.{BinPowers}
use Rattle.acquisition.specs.Rooms.{ForPowers}
use Rattle.acquisition.specs.Searches.{StandsFor, dwell_length}
use Rattle.acquisition.specs.Steps.{steps_in}
use Rattle.acquisition.specs.Tallies.{Tallies}
use Rattle.acquisition.proofs.SearchLemmas.{power-of_whole}
use Rattle.acquisition.proofs.search.Search.take_cells.Given.{Over}
use Rattle.acquisition.proofs.search.Search.take_cells.Goals as goal
use Rattle.acquisition.proofs.search.Search.take_cells.Goals.{then-first-count-eq-HALF_CHIPS}
use Rattle.acquisition.proofs.search.Search.take_cells.Goals.{else-first-count-eq-HALF_CHIPS}
use Rattle.acquisition.specs.declared.plan.TheConstants.{BIN_CELLS}

module _ (g : Over) (c : goal.After-self-2-1 g) (settings : Settings) (plan : Plan) (start : ℕ)
    (xs : List Sample) (holds : AreSamplesOf xs start (dwell_end settings plan start)
    (g.S.SampleSource.held c.args.source.now))
    (s : StandsFor settings plan start xs c.args.self.now)
  where
    abbrev bin : ℕ
    bin = c.args.self.now.done / BIN_CELLS

    few : bin ≤ 2 * plan.bins
    few = omega (arith, rw s.plan_is at c.requires.end, c.requires.some)

    of_plan : c.in-Some.ones.prn ≡ plan.prn
    of_plan = c.args.self.now.of_plan c.in-Some.ones c.in-Some.is
        ∙ ap (λ (p : Plan). p.prn) s.plan_is

    so_far : (x : ℕ → Sample)
        → ((j : ℕ) → j < dwell_length settings plan → sample_at xs (start + j) ≡ x j)
        → AreSoFar x plan.prn (samples_per_ms settings) (steps_in c.args.self.now.steps bin)
        c.advance.new.self
    so_far x same =
        rw (of_plan, s.per_period, c.bin-steps.ensures.steps) at (c.advance.ensures.powers x
        (λ j h. let within = rw (s.periods, s.per_period) at h in
        rw s.start_is (holds (start + j) (omega arith) (omega (arith, within))) ∙ same j within))
        (rw (← c.index_mut-powers.ensures.value) at (s.powers x same c.index_mut-powers.result.now))

    tally : Tallies (power_of settings plan xs start)
        c.if-first-count-eq-HALF_CHIPS.self.1.1.1.1.0
    tally = elim c.if-first-count-eq-HALF_CHIPS.branch [
      | then-first-count-eq-HALF_CHIPS w ↦
          let all : c.advance.new.self.added ≡ BIN_CELLS * plan.dwell =
          c.advance.ensures.added ∙ rw (w.if-first-count-eq-HALF_CHIPS.true, s.periods) refl in
          rw w.self-is (w.take_bin.ensures.tallies (power_of settings plan xs start)
          (λ i h. rw c.args.self.now.whole_bins (power-of_whole settings plan xs start bin i
          c.args.self.now.steps c.advance.new.self few h all s.steps
          (so_far (λ j. sample_at xs (start + j)) (λ j within. refl)))) s.tally)
      | else-first-count-eq-HALF_CHIPS w ↦ rw w.self-is s.tally
    ]

    -- what the room has once powers are written there
    written : (a d : BinPowers)
        → get_or (slice_set c.args.self.now.room.powers.items 0 a) 0 d ≡ a
    written a d = get_or-set_same c.args.self.now.room.powers.items 0 a d
        (omega (arith, c.args.self.now.room.powers.ok.0, c.args.self.now.begun))

    powers : (x : ℕ → Sample)
        → ((j : ℕ) → j < dwell_length settings plan → sample_at xs (start + j) ≡ x j)
        → ForPowers c.if-first-count-eq-HALF_CHIPS.self.1.1.1.1.1.1.0
        (AreSoFar x plan.prn (samples_per_ms settings) (steps_in c.args.self.now.steps
        ((c.args.self.now.done + c.min-count.result) / BIN_CELLS)))
    powers x same d = elim c.if-first-count-eq-HALF_CHIPS.branch [
      | then-first-count-eq-HALF_CHIPS w ↦
          rw (w.self-is, written _ d)
          (w.clear.ensures.powers x plan.prn (samples_per_ms settings) _)
      | else-first-count-eq-HALF_CHIPS w ↦
          let here : (c.args.self.now.done + c.min-count.result) / BIN_CELLS ≡ bin = omega
          (arith, c.min-count.ensures, w.if-first-count-eq-HALF_CHIPS.false) in
          rw (w.self-is, here, written _ d) (so_far x same)
    ]

pub returns-clause-stands : goal.returns-clause-stands
returns-clause-stands g c settings plan start xs holds s = record {
  plan_is = s.plan_is;
  start_is = s.start_is;
  periods = s.periods;
  per_period = s.per_period;
  steps = s.steps;
  tally = tally g c settings plan start xs holds s;
  powers = powers g c settings plan start xs holds s;
}

pub advance-requires-clause-to : goal.advance-requires-clause-to
advance-requires-clause-to g c =
    let inside : c.args.self.now.done % BIN_CELLS + c.min-count.result
    ≤ BIN_CELLS = omega (arith, c.min-count.ensures) in
    mul-le-mul_right c.args.self.now.dwell.periods inside

pub invariant_of-self-2-clause-work : goal.invariant_of-self-2-clause-work
invariant_of-self-2-clause-work g c d = elim c.if-first-count-eq-HALF_CHIPS.branch [
  | then-first-count-eq-HALF_CHIPS w ↦
      let none : (c.args.self.now.done + c.min-count.result) % BIN_CELLS ≡ 0 = omega
      (arith, w.if-first-count-eq-HALF_CHIPS.true) in
      rw (w.self-is, written _ d, none, zero-mul c.args.self.now.dwell.periods)
      w.clear.ensures.added
  | else-first-count-eq-HALF_CHIPS w ↦
      let inside : (c.args.self.now.done + c.min-count.result) % BIN_CELLS
      ≡ c.args.self.now.done % BIN_CELLS + c.min-count.result = omega
      (arith, c.min-count.ensures, w.if-first-count-eq-HALF_CHIPS.false) in
      rw (w.self-is, written _ d, inside) c.advance.ensures.added
]
  where
    written : (a d : BinPowers)
        → get_or (slice_set c.args.self.now.room.powers.items 0 a) 0 d ≡ a
    written a d = get_or-set_same c.args.self.now.room.powers.items 0 a d
        (omega (arith, c.args.self.now.room.powers.ok.0, c.args.self.now.begun))

pub invariant_of-self-2-clause-whole_bins : goal.invariant_of-self-2-clause-whole_bins
invariant_of-self-2-clause-whole_bins c = search rules
