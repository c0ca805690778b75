use Rattle.std.proofs.Common.{◌≡◌, ◌*◌, ◌/◌, ◌%◌, ℕ, refl, arith}
use Rattle.acquisition.specs.PeriodStates.{AreSumsOf}
use Rattle.acquisition.proofs.SoFarLemmas.{so_far-more, IsRun}
use Rattle.acquisition.proofs.bin_powers.BinPowers.advance.Given.{Over}
use Rattle.acquisition.proofs.bin_powers.BinPowers.advance.Goals as goal
use Rattle.acquisition.proofs.bin_powers.BinPowers.advance.Goals.{then-cell-eq0, else-cell-eq0}
use Rattle.acquisition.specs.declared.plan.TheConstants.{BIN_CELLS}

-- the sums of a period that begins are made, and nothing else changes
powers_stay : (g : Over) (c : goal.After-add g)
    → c.if-cell-eq0.self.powers ≡ c.loop-self.self.powers
powers_stay g c = elim c.if-cell-eq0.branch [
  | then-cell-eq0 w ↦ rw w.self-is refl
  | else-cell-eq0 w ↦ rw w.self-is refl
]

as_many : (g : Over) (c : goal.After-add g) → c.if-cell-eq0.self.added ≡ c.loop-self.self.added
as_many g c = elim c.if-cell-eq0.branch [
  | then-cell-eq0 w ↦ rw w.self-is refl
  | else-cell-eq0 w ↦ rw w.self-is refl
]

run : (g : Over) (c : goal.After-add g)
    → IsRun c.loop-self.self.added (c.loop-self.self.added % BIN_CELLS) c.min-count.result
run g c = record {
  from = refl;
  within = omega (arith, c.min-count.ensures, c.min.ensures);
}

pub loop-self-preserved : goal.loop-self-preserved
loop-self-preserved g c =
    let here = c.loop-self.invariant in
    let old = c.loop-self.self in
    let steps = c.args.steps in
    let long : ℕ = c.args.dwell.now.per_period in
    let more = c.add.ensures in
    record {
      most = omega (
        arith,
        more.added,
        as_many g c,
        c.min-count.ensures,
        c.min.ensures,
        c.loop-self-test.true,
      );
      powers = λ x same begun.
          let before = here.powers x same begun in
          let sums : AreSumsOf x steps.code steps.carrier (old.added / BIN_CELLS * long) long
          c.if-cell-eq0.self.sums = elim c.if-cell-eq0.branch [
            | then-cell-eq0 w ↦ rw w.self-is (w.sum_up.ensures x same)
            | else-cell-eq0 w ↦ rw w.self-is (before.sums (omega (arith, w.if-cell-eq0.false)))
          ] in
          so_far-more x c.args.ones.now.prn long steps old c.add.new.self
          c.if-cell-eq0.self.sums (old.added % BIN_CELLS) c.min-count.result
          c.powers-powers.result (run g c) sums
          (λ l h. c.powers-powers.ensures.powers x steps.code steps.carrier
          (old.added / BIN_CELLS * long) long sums l (omega (arith, h, c.min-count.ensures)))
          (rw (powers_stay g c) at more.powers) (rw (powers_stay g c) at more.before)
          (rw (powers_stay g c) at more.after) (rw (as_many g c) at more.added)
          more.sums before;
    }
