use Rattle.std.proofs.Common.{◌+◌, ◌-◌, ◌%◌, ℕ, refl, arith}
use Rattle.std.specs.Prelude.{cond, leb}
use Rattle.lane_correlator.specs.RunningSums.{AreNumbersOn, AreMasksOn}
use Rattle.lane_correlator.proofs.ByteLemmas.{bytes_of}
use Rattle.lane_correlator.proofs.RunningLemmas.{by_table, single}
use Rattle.lane_correlator.specs.declared.running_sums.TheConstants.{ONE_ON, TWO_ON}
use Rattle.lane_correlator.specs.declared.running_sums.TheConstants.{FOUR_ON, EIGHT_ON}
use Rattle.lane_correlator.specs.declared.running_sums.TheConstants.{HAVE_ONE_ON, HAVE_TWO_ON}
use Rattle.lane_correlator.specs.declared.running_sums.TheConstants.{HAVE_FOUR_ON, HAVE_EIGHT_ON}
use Rattle.lane_correlator.proofs.running_sums.sums_in_sixteens.Goals as goal

one_on : AreNumbersOn 1 ONE_ON
one_on = by_table (λ (k : ℕ). (k % 16 + 1) % 16) ONE_ON refl

two_on : AreNumbersOn 2 TWO_ON
two_on = by_table (λ (k : ℕ). (k % 16 + 2) % 16) TWO_ON refl

four_on : AreNumbersOn 4 FOUR_ON
four_on = by_table (λ (k : ℕ). (k % 16 + 4) % 16) FOUR_ON refl

eight_on : AreNumbersOn 8 EIGHT_ON
eight_on = by_table (λ (k : ℕ). (k % 16 + 8) % 16) EIGHT_ON refl

have_one_on : AreMasksOn 1 HAVE_ONE_ON
have_one_on = by_table (λ (k : ℕ). cond (leb (k % 16 + 1) 15) 255 0) HAVE_ONE_ON refl

have_two_on : AreMasksOn 2 HAVE_TWO_ON
have_two_on = by_table (λ (k : ℕ). cond (leb (k % 16 + 2) 15) 255 0) HAVE_TWO_ON refl

have_four_on : AreMasksOn 4 HAVE_FOUR_ON
have_four_on = by_table (λ (k : ℕ). cond (leb (k % 16 + 4) 15) 255 0) HAVE_FOUR_ON refl

have_eight_on : AreMasksOn 8 HAVE_EIGHT_ON
have_eight_on = by_table (λ (k : ℕ). cond (leb (k % 16 + 8) 15) 255 0) HAVE_EIGHT_ON refl

pub doubled-twos-requires-clause-on : goal.doubled-twos-requires-clause-on
doubled-twos-requires-clause-on c =
    record { long = refl; few = λ k h. rw (one_on k h) (omega arith) }

pub doubled-fours-requires-clause-on : goal.doubled-fours-requires-clause-on
doubled-fours-requires-clause-on c =
    record { long = refl; few = λ k h. rw (two_on k h) (omega arith) }

pub doubled-eights-requires-clause-on : goal.doubled-eights-requires-clause-on
doubled-eights-requires-clause-on c =
    record { long = refl; few = λ k h. rw (four_on k h) (omega arith) }

pub doubled-requires-clause-on : goal.doubled-requires-clause-on
doubled-requires-clause-on c = record { long = refl; few = λ k h. rw (eight_on k h) (omega arith) }

pub returns-clause-sums : goal.returns-clause-sums
returns-clause-sums c =
    let bytes = c.args.bytes in
    c.doubled.ensures.sums 8 bytes eight_on have_eight_on
    (c.doubled-eights.ensures.sums 4 bytes four_on have_four_on
    (c.doubled-fours.ensures.sums 2 bytes two_on have_two_on
    (c.doubled-twos.ensures.sums 1 bytes one_on have_one_on
    (single bytes (λ j h. bytes_of bytes c.fits-bytes.1 (63 - j))))))
