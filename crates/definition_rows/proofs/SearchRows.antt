-- Worked examples of acquisition: due times, cells by time, powers, and which cell is named.
use Rattle.std.proofs.Common.{◌≡◌, ℕ, List, [], ◌∷◌, refl}
use Rattle.std.specs.Prelude.{pos, negsuc, map, true, false, Some, replicate, get_or}
use Rattle.definitions.specs.Sums.{total, least_below}
use Rattle.definitions.specs.Samples.{Sample, real, real1}
use Rattle.definitions.specs.Codes.{register_after, chip, chip_after}
use Rattle.definitions.specs.Oscillators.{Settings, code_step, carrier_step}
use Rattle.definitions.specs.Correlation.{in_phase_sum, quadrature_sum}
use Rattle.definitions.specs.Acquisition.{Plan, due_time, cells_done, power_of, greatest_of, Cell}
use Rattle.definitions.specs.Acquisition.{named_cell}
use Rattle.definitions.specs.Lock.{news_of}
use Rattle.definitions.specs.Commands.{begin, acquire, state}
use Rattle.definitions.specs.Answers.{answer_at_end, view_of, shown, acquiring}
use Rattle.definitions.specs.Lives.{life_now, life_of, is_over, dumps_of_life}
use Rattle.definitions.specs.Acquisition.{cell_phases}
use Rattle.definitions.specs.Oscillators.{samples_per_ms}
use Rattle.definitions.specs.Lives.{is_steered, tracked_channel}
use Rattle.definitions.specs.Commands.{hold, track}
use Rattle.definitions.specs.Loops.{loops_after}
use Rattle.definitions.specs.Lock.{is_locked}
use Rattle.definitions.specs.Events.{pushes_of, pushes_by}
use Rattle.definitions.specs.BitEdge.{edge_of}
use Rattle.definitions.specs.Answers.{channel_view, tracking}

abbrev usual : Settings
usual = record { rate = 2046000; offset = pos 0; packing = real1 }

abbrev widest : Plan
widest = record { prn = 1; centre = pos 0; bins = 40; dwell = 10; threshold = 1000 }

-- the widest plan: ten milliseconds, and four samples for each of 165,726 cells
due_at : due_time usual widest 0 ≡ 683364
due_at = refl

-- its first cell
done_at : map (cells_done usual widest 0) (20463 ∷ 20464 ∷ []) ≡ 0 ∷ 1 ∷ []
done_at = refl

abbrev smallest : Plan
smallest = record { prn = 1; centre = pos 0; bins = 0; dwell = 1; threshold = 10 }

-- 2,050 samples after the start the first cell of the smallest plan is done
one_cell_done : answer_at_end usual (replicate 2050 (real (pos 1))) (record {
  time = 0;
  request =
      begin (acquire smallest);
} ∷ []) state ≡ shown (acquiring 1 1 2046)
unfolding answer_at_end life_now life_of is_over view_of dumps_of_life code_step carrier_step
    least_below news_of
one_cell_done = refl

abbrev slow : Settings
slow = record { rate = 3000; offset = pos 700; packing = real1 }

abbrev small : Plan
small = record { prn = 1; centre = pos 500; bins = 1; dwell = 2; threshold = 10 }

abbrev seven : List Sample
seven = map real (pos 1 ∷ negsuc 0 ∷ pos 1 ∷ pos 1 ∷ negsuc 0 ∷ negsuc 0 ∷ pos 1 ∷ pos 1 ∷ [])

-- the powers of four cells of two periods of three samples, as another program gives them
powers : map (power_of slow small seven 1) (2046 ∷ 2049 ∷ 4095 ∷ 2045 ∷ []) ≡ 30 ∷ 34 ∷ 18 ∷ 18 ∷ []
unfolding power_of in_phase_sum quadrature_sum total chip chip_after register_after code_step
    carrier_step
powers = refl

-- of equal cells the first
first_of_equals : greatest_of (λ k. get_or (1 ∷ 3 ∷ 2 ∷ 3 ∷ []) k 0) 4 ≡ Some 1
unfolding greatest_of least_below
first_of_equals = refl

-- with equal powers the cell is found at threshold 10, the mean itself, and not at 11
abbrev equal_cells : ℕ → Cell
equal_cells threshold =
    named_cell (record {
      prn = 1;
      centre = pos 0;
      bins = 0;
      dwell = 1;
      threshold = threshold;
    }) (λ k. 20)

found_at_ten : (equal_cells 10).found ≡ true
unfolding named_cell
found_at_ten = refl

none_at_eleven : (equal_cells 11).found ≡ false
unfolding named_cell
none_at_eleven = refl

-- 6000/1540 Hz of code at 4,092,000 samples a second: 2^30 + 4089.3
cell_code : (cell_phases (record usual { rate = 4092000 })
    (record smallest { centre = pos 6000 }) 0).code_step ≡ 1073745913
unfolding code_step carrier_step
cell_code = refl

-- a millisecond has whole samples
whole_milliseconds : samples_per_ms (record usual { rate = 2046999 }) ≡ 2046
whole_milliseconds = refl

-- what is tracked is steered, and so is a signal that a search found
steered : map is_steered (hold 1 (pos 0) 0 ∷ track 1 (pos 0) 0 ∷ acquire smallest ∷ [])
    ≡ false ∷ true ∷ true ∷ []
steered = refl

-- the shift that is shown is that after the last dump: a sixteenth of it is 4096 * 3 / 5, down
shown_shift : channel_view (track 1 (pos 0) 0) (record {
  time = 1;
  counts = record { ie = pos 2; qe = pos 0; ip = pos 1; qp = pos 0; il = pos 1; ql = pos 0 };
} ∷ []) (tracked_channel 0 1 (pos 0) 0)
    ≡ tracking 1 1 (record { v = pos 0; w = pos 39312 }) false false
unfolding loops_after is_locked pushes_of pushes_by edge_of least_below
shown_shift = refl
