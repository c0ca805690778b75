-- Worked examples of how segments follow each other, of the steps of their phases, and of the chips
-- beside the prompt one.
use Rattle.std.proofs.Common.{◌≡◌, [], ◌∷◌, refl}
use Rattle.std.specs.Prelude.{◌+◌, ◌-◌, ◌*◌, ◌^◌, pos, negsuc, neg_ℤ, map, true}
use Rattle.definitions.specs.Correlation.{Phases}
use Rattle.definitions.specs.Codes.{chip, chip_after, register_after}
use Rattle.definitions.specs.Oscillators.{Settings, code_step, carrier_step, early_sign, late_sign}
use Rattle.definitions.specs.Samples.{real1, real}
use Rattle.definitions.specs.Segments.{Segment, next_segment, phases_of, is_through, end_by}
use Rattle.definitions.specs.Segments.{progress, after_segments, closed_if_ended, next_end}
use Rattle.definitions.specs.Segments.{closed_at}
use Rattle.std.specs.Prelude.{false, None, Some}
use Rattle.std.specs.List.{range_with_len}
use Rattle.definitions.specs.Sums.{least_below, total}
use Rattle.definitions.specs.Correlation.{counts_over, six_sums, in_phase_sum, quadrature_sum}
use Rattle.definitions.specs.Loops.{loops_after}
use Rattle.definitions.specs.Lives.{found_channel, held_channel, tracked_channel}

-- the next segment takes both phases from where this one ends: 3 samples on, less a cycle
abbrev ending : Segment
ending = record { start = 2; code = 7; carrier = 5 }

abbrev its_phases : Phases
its_phases =
    record { code = 7; carrier = 5; code_step = 341 * 2 ^ 32; carrier_step = 2 ^ 31 + 1 }

goes_on : next_segment ending its_phases 5
    ≡ record { start = 5; code = 7; carrier = 2 ^ 31 + 8 }
goes_on = refl

-- the shift v and the correction w both set the code's step: 1,540 times 65536 is one Hz of code,
-- and w adds its own
abbrev usual : Settings
usual = record { rate = 4092000; offset = pos 0; packing = real1 }

step_of_w : map (code_step usual (pos 0)) (pos 0 ∷ pos 65536 ∷ neg_ℤ (pos 65536) ∷ [])
    ≡ 1073741824 ∷ 1073742873 ∷ 1073740774 ∷ []
unfolding code_step
step_of_w = refl

steps_of_segment : (phases_of usual (record { v = pos 0; w = pos 65536 }) ending).code_step
    ≡ 1073742873
unfolding code_step carrier_step
steps_of_segment = refl

-- a start at a Doppler shift and a half chip
started : (held_channel 9 1 (neg_ℤ (pos 3)) 5).code ∷ (tracked_channel 9 1 (neg_ℤ (pos 3)) 5).code
    ∷ [] ≡ 5 * 2 ^ 31 ∷ 5 * 2 ^ 31 ∷ []
started = refl

first_shifts : map (λ channel. channel.steering []) (held_channel 9 1 (neg_ℤ (pos 3)) 5
    ∷ tracked_channel 9 1 (neg_ℤ (pos 3)) 5 ∷ [])
    ≡ record { v = neg_ℤ (pos 196608); w = pos 0 }
    ∷ record { v = neg_ℤ (pos 196608); w = pos 0 } ∷ []
unfolding loops_after
first_shifts = refl

-- a found signal is steered from its bin's shift on
found_shift : (found_channel usual (record {
  prn = 1;
  centre = pos 1000;
  bins = 2;
  dwell = 1;
  threshold = 10;
}) 0 (record { bin = negsuc 1; half_chip = 3; power = 1; found = true })).steering []
    ≡ record { v = pos (500 * 65536); w = pos 0 }
unfolding loops_after
found_shift = refl

-- the early chip changes half a chip before the prompt one, the late one half a chip after it: from
-- chip 1 of satellite 1, which is 1, to chip 2, which is 0, at 1.5 and at 2.5 chips
early_changes : map (early_sign 1) ((3 * 2 ^ 31 - 1) ∷ 3 * 2 ^ 31 ∷ []) ≡ negsuc 0 ∷ pos 1 ∷ []
unfolding chip chip_after register_after
early_changes = refl

late_changes : map (late_sign 1) ((5 * 2 ^ 31 - 1) ∷ 5 * 2 ^ 31 ∷ []) ≡ negsuc 0 ∷ pos 1 ∷ []
unfolding chip chip_after register_after
late_changes = refl

-- the shift v is rounded down in the code's step
step_rounds_down : code_step usual (negsuc 0) (pos 0) ≡ 1073741823
unfolding code_step
step_rounds_down = refl

-- the correction w is of the code alone
carrier_without_w : (phases_of usual (record { v = pos 0; w = pos 65536 })
    (record { start = 0; code = 0; carrier = 0 })).carrier_step ≡ 0
unfolding code_step carrier_step
carrier_without_w = refl

-- a segment's own phases, and a step of 1,023,000 / 4,092,000 chip
phases_of_segment : phases_of usual (record { v = pos 0; w = pos 0 }) ending
    ≡ record { code = 7; carrier = 5; code_step = 2 ^ 30; carrier_step = 0 }
unfolding code_step carrier_step
phases_of_segment = refl

-- 12 below the cycle, at a step of 4: through after three samples
abbrev near_end : Segment
near_end = record { start = 10; code = 1023 * 2 ^ 32 - 12; carrier = 0 }

through_after_three : map (is_through near_end 4) (12 ∷ 13 ∷ 14 ∷ []) ≡ false ∷ true ∷ true ∷ []
unfolding is_through
through_after_three = refl

ends_within : map (end_by near_end 4) (12 ∷ 13 ∷ []) ≡ None ∷ Some 13 ∷ []
unfolding end_by is_through least_below
ends_within = refl

-- a segment takes one sample at least
abbrev at_end : Segment
at_end = record { start = 10; code = 1023 * 2 ^ 32; carrier = 0 }

one_sample_least : map (is_through at_end 4) (10 ∷ 11 ∷ []) ≡ false ∷ true ∷ []
unfolding is_through
one_sample_least = refl

-- 550 chips and a quarter of a cycle a sample, from chip 2 on: after two samples, 4 and 5, it is
-- chip 1102. A program apart has added up the sums, by the code as sections 3.2.1.3 and 3.3.2.3
-- make it
abbrev coarse : Settings
coarse = record { rate = 1860; offset = pos 465; packing = real1 }

first_dump : progress coarse (record {
  prn = 1;
  start = 3;
  code = 2 ^ 33;
  steering = λ _. record { v = pos 0; w = pos 0 };
}) (map (λ x. real (pos x)) (range_with_len 1 6))
    ≡ record {
      dumps = record {
        time = 5;
        counts =
            record {
              ie = pos 13;
              qe = pos 6;
              ip = pos 13;
              qp = pos 6;
              il = neg_ℤ (pos 13);
              ql = neg_ℤ (pos 6);
            };
      } ∷ [];
      open_segment = record { start = 5; code = 79 * 2 ^ 32; carrier = 2 ^ 31 };
    }
unfolding progress after_segments closed_if_ended next_end end_by is_through closed_at least_below
    counts_over six_sums in_phase_sum quadrature_sum total code_step carrier_step chip chip_after
    register_after
first_dump = refl

-- the intermediate frequency turns the carrier alone, and the shift both: the code has 1,023,000
-- chips, two more for v and three less for w, and the carrier 1,023 + 3,080 cycles a second
phases_off_zero : phases_of (record { rate = 2048000; offset = pos 1023; packing = real1 })
    (record { v = pos (3080 * 65536); w = neg_ℤ (pos (3 * 65536)) }) ending
    ≡ record { code = 7; carrier = 5; code_step = 2145384398; carrier_step = 8604614 }
unfolding code_step carrier_step
phases_off_zero = refl
