-- Worked examples of the cells of a search: their bins, half chips, shifts, phases and powers, and
-- the times of a dwell.
use Rattle.std.proofs.Common.{◌≡◌, refl}
use Rattle.definitions.specs.Acquisition.{Cell, Plan, bin_of, bin_shift, cell_count, cell_phases}
use Rattle.definitions.specs.Acquisition.{cells_done, due_time, dwell_end, greatest_of}
use Rattle.definitions.specs.Acquisition.{half_chip_of, is_greatest, named_cell, power_of}
use Rattle.definitions.specs.Acquisition.{power_over}
use Rattle.definitions.specs.Oscillators.{Settings, carrier_step, code_step}
use Rattle.definitions.specs.Codes.{chip, chip_after, register_after}
use Rattle.std.specs.Prelude.{false, get_or, map, neg_ℤ, pos, true, ◌*◌, ◌^◌, ◌∷◌, ◌==◌}
use Rattle.std.specs.Prelude.{if◌then◌else◌}
use Rattle.definitions.specs.Correlation.{in_phase_sum, quadrature_sum}
use Rattle.definitions.specs.Sums.{least_below, total}
use Rattle.std.specs.List.{range_with_len}
use Rattle.definitions.specs.Samples.{real, real1}
use Rattle.std.proofs.Common.{[], ℕ}

abbrev plan_of_bins : ℕ → Plan
plan_of_bins bins = record { prn = 3; centre = pos 1000; bins = bins; dwell = 2; threshold = 10 }

-- 2,046 half chips, in one bin, and in three bins to each side of it
counts_of_cells : map (λ bins. cell_count (plan_of_bins bins)) (0 ∷ 3 ∷ []) ≡ 2046 ∷ 14322 ∷ []
counts_of_cells = refl

-- by bin, and then by half chip
bins_of_cells : map (bin_of (plan_of_bins 3)) (0 ∷ 2045 ∷ 2046 ∷ 14321 ∷ [])
    ≡ neg_ℤ (pos 3) ∷ neg_ℤ (pos 3) ∷ neg_ℤ (pos 2) ∷ pos 3 ∷ []
bins_of_cells = refl

half_chips_of_cells : map half_chip_of (0 ∷ 2045 ∷ 2046 ∷ 14321 ∷ []) ≡ 0 ∷ 2045 ∷ 0 ∷ 2045 ∷ []
half_chips_of_cells = refl

-- bin -3 is at 1000 - 3 * 250 Hz
shift_of_bin : bin_shift (plan_of_bins 3) (neg_ℤ (pos 3)) ≡ record { v = pos 16384000; w = pos 0 }
shift_of_bin = refl

-- cell 2 * 2046 + 3 is half chip 3 of bin -1, at 750 Hz, which is 49,152,000 / 65536
abbrev at_two_a_chip : Settings
at_two_a_chip = record { rate = 2046000; offset = pos 0; packing = real1 }

phases_of_cell : cell_phases at_two_a_chip (plan_of_bins 3) 4095 ≡ record {
  code = 3 * 2 ^ 31;
  carrier = 0;
  code_step = 2147484670;
  carrier_step = 1574401;
}
unfolding code_step carrier_step
phases_of_cell = refl

-- its code is corrected by nothing: (1023000 * 65536 + 31916) * 65536 / 1000 at a sample a
-- millisecond
code_of_cell : (cell_phases (record at_two_a_chip { rate = 1000 }) (plan_of_bins 3) 4095).code_step
    ≡ 4393753635454
unfolding code_step carrier_step
code_of_cell = refl

-- 3 + 5i times 1 - 2i is 13 - i. Twice, times 10: 260 and -20
power_of_prompt : power_over (λ j. record { in_phase = pos 3; quadrature = pos 5 }) (record {
  cos = λ j. pos 1;
  sin = λ j. pos 2;
  early = λ j. pos 1;
  prompt = λ j. pos 10;
  late = λ j. pos 100;
}) 1 3 ≡ 68000
unfolding in_phase_sum quadrature_sum total
power_of_prompt = refl

-- two samples a millisecond, an eighth of a cycle each: the powers of half chips 1 and 3 of
-- satellite 3 over two milliseconds from sample 1 on, from a program apart
powers_of_two_periods : map (power_of (record { rate = 2000; offset = pos 250; packing = real1 })
    (record { prn = 3; centre = pos 0; bins = 0; dwell = 2; threshold = 10 })
    (map (λ n. real (pos n)) (range_with_len 1 8)) 1) (1 ∷ 3 ∷ []) ≡ 478 ∷ 62 ∷ []
unfolding power_of in_phase_sum quadrature_sum total chip chip_after register_after code_step
    carrier_step
powers_of_two_periods = refl

-- of the first two powers of 5, 3 and 9 the first is the greatest
greatest_of_two : map (is_greatest (λ k. get_or (5 ∷ 3 ∷ 9 ∷ []) k 0) 2) (0 ∷ 1 ∷ [])
    ≡ true ∷ false ∷ []
greatest_of_two = refl

-- 2,046 cells of power 1, but cell 5 of power 7: their sum is 2,052, and 69 * 2052 is less than
-- 10 * 7 * 2046, 70 * 2052 more. A cell past the last counts for nothing
abbrev named_at : ℕ → Cell
named_at threshold =
    named_cell (record {
      prn = 1;
      centre = pos 0;
      bins = 0;
      dwell = 1;
      threshold = threshold;
    }) (λ k. if k == 5 then 7 else if k == 2046 then 1000000 else 1)

named_and_found : named_at 69 ≡ record { bin = pos 0; half_chip = 5; power = 7; found = true }
unfolding named_cell greatest_of least_below
named_and_found = refl

named_alone : named_at 70 ≡ record { bin = pos 0; half_chip = 5; power = 7; found = false }
unfolding named_cell greatest_of least_below
named_alone = refl

-- from sample 5 on two milliseconds of 2,046 samples, and then four samples for each cell
end_of_dwell : dwell_end at_two_a_chip (plan_of_bins 0) 5
    ∷ due_time at_two_a_chip (plan_of_bins 0) 5
    ∷ [] ≡ 4097 ∷ 12281 ∷ []
end_of_dwell = refl

cells_by_time : map (cells_done at_two_a_chip (plan_of_bins 0) 5)
    (10 ∷ 4097 ∷ 4100 ∷ 4101 ∷ 12280 ∷ 12281 ∷ 99999 ∷ [])
    ≡ 0 ∷ 0 ∷ 0 ∷ 1 ∷ 2045 ∷ 2046 ∷ 2046 ∷ []
cells_by_time = refl
