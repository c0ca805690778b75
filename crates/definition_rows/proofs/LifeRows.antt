-- Worked examples of what commands make of a life, and of the channel that a start gives.
use Rattle.std.proofs.Common.{◌≡◌, refl}
use Rattle.definitions.specs.Segments.{Channel}
use Rattle.definitions.specs.Correlation.{Counts}
use Rattle.definitions.specs.Lives.{Life, channel_of, doppler_shift, dumps_of_life, found_channel}
use Rattle.definitions.specs.Lives.{held_channel, is_lost_with, is_over, life_of, life_with}
use Rattle.definitions.specs.Lives.{still_on, tracked_channel}
use Rattle.std.specs.Prelude.{List, None, Some, false, map, neg_ℤ, negsuc, option_map, pos}
use Rattle.std.specs.Prelude.{replicate, true, ◌*◌, ◌^◌, ◌++◌, ◌∷◌}
use Rattle.definitions.specs.Commands.{Request, Start, TimedRequest, acquire, begin, counts, hold}
use Rattle.definitions.specs.Commands.{state, stop, track}
use Rattle.definitions.specs.Oscillators.{Settings, code_step}
use Rattle.definitions.specs.Sums.{least_below}
use Rattle.definitions.specs.Lock.{news_of}
use Rattle.definitions.specs.Samples.{real1}
use Rattle.std.proofs.Common.{[], ℕ}
use Rattle.definitions.specs.Acquisition.{Cell, Plan, result_of}
use Rattle.definitions.specs.Samples.{Sample, real}
use Rattle.definitions.specs.Lives.{acquired_channel, found_nothing, is_lost, life_after}
use Rattle.definitions.specs.Loops.{loops_after}
use Rattle.std.specs.Prelude.{not, ◌||◌, if◌then◌else◌}

abbrev usual : Settings
usual = record { rate = 2046000; offset = pos 0; packing = real1 }

abbrev life_of_start : ℕ → Start → Life
life_of_start begun start = record { begun = begun; start = start; wanted = 0; wanted_from = begun }

abbrev first : Life
first = life_of_start 1 (hold 7 (pos 0) 0)

abbrev second : Life
second = life_of_start 2 (track 8 (pos 0) 0)

abbrev start_ten : Start
start_ten = hold 10 (pos 0) 0

-- a start where no life is on, and where one is; so many counts from a time on
starts : life_with (Some first) None 9 (begin start_ten)
    ∷ life_with (Some first) (Some second) 9 (begin start_ten) ∷ []
    ≡ Some (life_of_start 9 start_ten) ∷ Some first ∷ []
starts = refl

counts_asked : life_with (Some first) None 9 (counts 4)
    ∷ life_with (Some first) (Some second) 9 (counts 4) ∷ [] ≡ Some first ∷ Some (record {
      begun = 2;
      start = track 8 (pos 0) 0;
      wanted = 4;
      wanted_from = 9;
    }) ∷ []
counts_asked = refl

stops_and_states : life_with (Some first) None 9 stop ∷ life_with (Some first) (Some second) 9 stop
    ∷ life_with (Some first) (Some second) 9 state ∷ [] ≡ Some first ∷ None ∷ Some first ∷ []
stops_and_states = refl

-- nothing ends what is held but `stop`; and a search isn't over before its due time
abbrev searching : Life
searching = life_of_start 0 (acquire (record {
  prn = 1;
  centre = pos 0;
  bins = 0;
  dwell = 1;
  threshold = 10;
}))

still_held : still_on usual [] (Some first) ∷ still_on usual [] None
    ∷ still_on usual [] (Some searching)
    ∷ [] ≡ Some first ∷ None ∷ Some searching ∷ []
unfolding is_over dumps_of_life least_below news_of
still_held = refl

-- commands in their order
abbrev at : ℕ → Request → TimedRequest
at time request = record { time = time; request = request }

lives : map (life_of usual []) ((at 1 (begin (hold 7 (pos 0) 0)) ∷ at 2 (begin start_ten) ∷ [])
    ∷ (at 2 (begin start_ten) ∷ at 3 stop ∷ [])
    ∷ (at 2 (begin start_ten) ∷ at 3 stop ∷ at 4 (begin start_ten) ∷ []) ∷ [])
    ≡ Some first ∷ None ∷ Some (life_of_start 4 start_ten) ∷ []
unfolding life_of is_over dumps_of_life
lives = refl

-- 65536 / 65536 of a Hz
shift_in_hertz : doppler_shift (negsuc 2) ≡ neg_ℤ (pos 196608)
shift_in_hertz = refl

-- a satellite, from a time on, at a half chip
abbrev parts : Channel → List ℕ
parts channel = channel.prn ∷ channel.start ∷ channel.code ∷ []

channels : map parts (held_channel 9 7 (pos 3) 5 ∷ tracked_channel 9 7 (pos 3) 5 ∷ [])
    ≡ replicate 2 (7 ∷ 9 ∷ 5 * 2 ^ 31 ∷ [])
channels = refl

channels_of_starts : map (λ start. option_map parts (channel_of usual [] 9 start))
    (hold 7 (pos 3) 5 ∷ track 8 (pos 3) 6 ∷ []) ≡ Some (7 ∷ 9 ∷ 5 * 2 ^ 31 ∷ [])
    ∷ Some (8 ∷ 9 ∷ 6 * 2 ^ 31 ∷ []) ∷ []
channels_of_starts = refl

-- half a chip a sample: from sample 5 on a dwell of 2,046 samples and four samples for each of
-- 2,046 cells are 10,230 half chips, five whole codes. At 2,047,000 samples a second they are fewer
abbrev found_at : Settings → Channel
found_at settings =
    found_channel settings (record {
      prn = 3;
      centre = pos 0;
      bins = 0;
      dwell = 1;
      threshold = 10;
    }) 5 (record { bin = pos 0; half_chip = 3; power = 1; found = true })

found_parts : parts (found_at usual) ≡ 3 ∷ 10235 ∷ 3 * 2 ^ 31 ∷ []
unfolding code_step
found_parts = refl

-- the loops answer that the signal is lost with dump 1199, and answer otherwise to a lock
abbrev dump : ℕ → Counts
dump i = record { ie = pos 0; qe = pos 0; ip = pos i; qp = pos 1; il = pos 0; ql = pos 0 }

lost_with_dump : map (is_lost_with (replicate 1200 (dump 1))) (0 ∷ 1198 ∷ 1199 ∷ [])
    ≡ false ∷ false ∷ true ∷ []
unfolding news_of
lost_with_dump = refl

not_lost_with_lock : is_lost_with (replicate 219 (dump 2)) 219 ≡ false
unfolding news_of
not_lost_with_lock = refl

not_lost_with_unlock : is_lost_with (replicate 219 (dump 2) ++ replicate 200 (dump 1)) 419 ≡ false
unfolding news_of
not_lost_with_unlock = refl

-- a bin at 1000 + 2 * 250 Hz, at a sample a millisecond: the code has gone on by 40,921 samples,
-- each (1023000 * 65536 + 63833) * 65536 / 1000, less whole cycles, and it goes on at that shift
abbrev coarse : Settings
coarse = record { rate = 1000; offset = pos 0; packing = real1 }

abbrev two_bins_up : Channel
two_bins_up =
    found_channel coarse (record {
      prn = 3;
      centre = pos 1000;
      bins = 2;
      dwell = 1;
      threshold = 10;
    }) 5 (record { bin = pos 2; half_chip = 3; power = 1; found = true })

found_with_shift : parts two_bins_up ≡ 3 ∷ 40926 ∷ 177629684583 ∷ []
unfolding code_step
found_with_shift = refl

steered_from_shift : two_bins_up.steering [] ≡ record { v = pos 98304000; w = pos 0 }
unfolding loops_after
steered_from_shift = refl

-- what is held keeps its shift; what is tracked has a sixteenth of 4096 * 3 / 5, down, after a dump
abbrev early_dump : Counts
early_dump =
    record { ie = pos 2; qe = pos 0; ip = pos 1; qp = pos 0; il = pos 1; ql = pos 0 }

steered_or_not : map (λ start. option_map (λ (c : Channel). c.steering (early_dump ∷ []))
    (channel_of usual [] 9 start)) (hold 7 (pos 0) 5 ∷ track 7 (pos 0) 5 ∷ [])
    ≡ Some (record { v = pos 0; w = pos 0 }) ∷ Some (record { v = pos 0; w = pos 39312 }) ∷ []
unfolding loops_after
steered_or_not = refl

-- a search from time 3 on is due at 8188: what it has found is followed from then on, and where it
-- has found nothing it is over
abbrev due_plan : Plan
due_plan = record { prn = 7; centre = pos 0; bins = 0; dwell = 1; threshold = 10 }

abbrev until_due : List Sample
until_due = replicate 8188 (real (pos 1))

abbrev its_result : Cell
its_result = result_of coarse due_plan until_due 3

followed_when_due : acquired_channel coarse until_due due_plan 3
    ≡ (if its_result.found then Some (found_channel coarse due_plan 3 its_result) else None)
followed_when_due = refl

nothing_found_when_due : found_nothing coarse until_due 3 (acquire due_plan) ≡ not its_result.found
nothing_found_when_due = refl

never_found_nothing : map (found_nothing usual [] 0) (hold 7 (pos 0) 5 ∷ track 7 (pos 0) 5 ∷ [])
    ≡ false ∷ false ∷ []
never_found_nothing = refl

abbrev search_from : ℕ → Life
search_from begun =
    record { begun = begun; start = acquire due_plan; wanted = 1; wanted_from = begun }

over_when_due : is_over coarse until_due (search_from 3)
    ≡ (not its_result.found || is_lost coarse until_due (search_from 3))
unfolding is_over
over_when_due = refl

not_over_before : is_over coarse until_due (search_from 5) ≡ false
unfolding is_over dumps_of_life least_below news_of
not_over_before = refl

-- whether a life is on is asked of the samples up to a command's time
stopped_before_due : life_after coarse until_due (Some (search_from 2)) (at 1 stop) ≡ None
unfolding is_over dumps_of_life least_below news_of
stopped_before_due = refl

asked_of_latest : life_after usual [] (Some first) (at 9 stop)
    ≡ life_with (Some first) (still_on usual [] (Some first)) 9 stop
asked_of_latest = refl
