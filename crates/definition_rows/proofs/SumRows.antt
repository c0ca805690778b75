-- Worked examples of the six sums, of the phases of a stretch, and of what the samples are
-- multiplied by.
use Rattle.std.proofs.Common.{◌≡◌, [], ◌∷◌, refl}
use Rattle.std.specs.Prelude.{◌+◌, ◌-◌, ◌*◌, ◌^◌, ℤ, pos, negsuc, neg_ℤ, map}
use Rattle.std.specs.List.{range_with_len}
use Rattle.definitions.specs.Correlation.{Counts, Replica, counts_over, in_phase_sum, no_counts}
use Rattle.definitions.specs.Correlation.{phases_after, quadrature_sum, replica_of, six_sums}
use Rattle.definitions.specs.Correlation.{sum_of_counts, wiped_in_phase, wiped_quadrature}
use Rattle.definitions.specs.Samples.{Sample, real}
use Rattle.definitions.specs.Codes.{chip, chip_after, register_after}
use Rattle.definitions.specs.Sums.{total}

-- 3 + 5i times the conjugate of 2 + 7i is 3 * 2 + 5 * 7, and 5 * 2 - 3 * 7 times i
abbrev three_and_five : Sample
three_and_five = record { in_phase = pos 3; quadrature = pos 5 }

wiped : wiped_in_phase three_and_five (pos 2) (pos 7)
    ∷ wiped_quadrature three_and_five (pos 2) (pos 7) ∷ [] ≡ pos 41 ∷ neg_ℤ (pos 11) ∷ []
wiped = refl

-- offsets 1 and 2: (3 + 5) * 2 + (6 + 5) * 3, and (5 - 3) * 2 + (10 - 3) * 3
sums_from_one : in_phase_sum (λ j. three_and_five) pos (λ j. pos 1) (λ j. pos (j + 1)) 1 3
    ∷ quadrature_sum (λ j. three_and_five) pos (λ j. pos 1) (λ j. pos (j + 1)) 1 3 ∷ []
    ≡ pos 49 ∷ pos 25 ∷ []
unfolding in_phase_sum quadrature_sum total
sums_from_one = refl

-- 3 + 5i times 1 - 2i is 13 - i; twice, times the chips
six_distinct : six_sums (λ j. three_and_five) (record {
  cos = λ j. pos 1;
  sin = λ j. pos 2;
  early = λ j. pos 1;
  prompt = λ j. pos 10;
  late = λ j. pos 100;
}) 1 3 ≡ record {
  ie = pos 26;
  qe = neg_ℤ (pos 2);
  ip = pos 260;
  qp = neg_ℤ (pos 20);
  il = pos 2600;
  ql = neg_ℤ (pos 200);
}
unfolding six_sums in_phase_sum quadrature_sum total
six_distinct = refl

-- place by place; all six places of no counts are 0
abbrev counts6 : ℤ → ℤ → ℤ → ℤ → ℤ → ℤ → Counts
counts6 ie qe ip qp il ql = record { ie = ie; qe = qe; ip = ip; qp = qp; il = il; ql = ql }

place_by_place : sum_of_counts (counts6 (pos 1) (pos 2) (pos 3) (pos 4) (pos 5) (pos 6))
    (counts6 (pos 10) (pos 20) (pos 30) (pos 40) (pos 50) (pos 60))
    ≡ counts6 (pos 11) (pos 22) (pos 33) (pos 44) (pos 55) (pos 66)
place_by_place = refl

none_at_all : no_counts ≡ counts6 (pos 0) (pos 0) (pos 0) (pos 0) (pos 0) (pos 0)
none_at_all = refl

-- two samples on: the code's phase goes past the end of its cycle, the carrier's is less a cycle
two_samples_on : phases_after (record {
  code = 1023 * 2 ^ 32 - 1;
  carrier = 2 ^ 32 - 1;
  code_step = 10;
  carrier_step = 3;
}) 2 ≡ record {
  code = 1023 * 2 ^ 32 + 19;
  carrier = 5;
  code_step = 10;
  carrier_step = 3;
}
two_samples_on = refl

-- from a quarter chip on by half chips, and by quarters of a cycle from five eighths on. The first
-- five chips of satellite 1 are 1, 1, 0, 0, 1
abbrev by_halves : Replica
by_halves = replica_of 1 (record {
  code = 2 ^ 30;
  carrier = 5 * 2 ^ 29;
  code_step = 2 ^ 31;
  carrier_step = 2 ^ 30;
})

-- prompt chips 0, 1, 1, 2, 2, 3, 3, 4; early ones half a chip ahead, late ones half a chip behind
early_by_halves : map (λ j. by_halves.early j) (range_with_len 1 8)
    ≡ negsuc 0 ∷ negsuc 0 ∷ pos 1 ∷ pos 1 ∷ pos 1 ∷ pos 1 ∷ negsuc 0 ∷ negsuc 0 ∷ []
unfolding chip chip_after register_after
early_by_halves = refl

prompt_by_halves : map (λ j. by_halves.prompt j) (range_with_len 1 8)
    ≡ negsuc 0 ∷ negsuc 0 ∷ negsuc 0 ∷ pos 1 ∷ pos 1 ∷ pos 1 ∷ pos 1 ∷ negsuc 0 ∷ []
unfolding chip chip_after register_after
prompt_by_halves = refl

late_by_halves : map (λ j. by_halves.late j) (range_with_len 1 8)
    ≡ negsuc 0 ∷ negsuc 0 ∷ negsuc 0 ∷ negsuc 0 ∷ pos 1 ∷ pos 1 ∷ pos 1 ∷ pos 1 ∷ []
unfolding chip chip_after register_after
late_by_halves = refl

-- the table's cosines and sines at indexes 5, 7, 1 and 3
carrier_by_quarters : map (λ j. by_halves.cos j) (range_with_len 0 4)
    ≡ neg_ℤ (pos 1) ∷ pos 2 ∷ pos 1 ∷ neg_ℤ (pos 2) ∷ []
carrier_by_quarters = refl

sines_by_quarters : map (λ j. by_halves.sin j) (range_with_len 0 4)
    ≡ neg_ℤ (pos 2) ∷ neg_ℤ (pos 1) ∷ pos 2 ∷ pos 1 ∷ []
sines_by_quarters = refl

-- samples 1 and 2 of 10, 20, 30 and 40, at a carrier that stands still at cosine 2 and sine 1, and
-- at chip 2, which is 0: 2 * (20 + 30), and less 20 + 30
over_two_samples : counts_over 1 (record {
  code = 5 * 2 ^ 31;
  carrier = 0;
  code_step = 0;
  carrier_step = 0;
}) (map (λ n. real (pos (10 * n))) (range_with_len 1 4)) 1 3
    ≡ counts6 (pos 100) (neg_ℤ (pos 50)) (pos 100) (neg_ℤ (pos 50)) (pos 100) (neg_ℤ (pos 50))
unfolding counts_over six_sums in_phase_sum quadrature_sum total chip chip_after register_after
over_two_samples = refl
