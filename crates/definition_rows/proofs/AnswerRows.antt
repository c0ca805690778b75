-- Worked examples of answers, and of the state that is shown.
use Rattle.std.proofs.Common.{◌≡◌, refl}
use Rattle.definitions.specs.Segments.{Dump}
use Rattle.definitions.specs.Lives.{Life, held_channel}
use Rattle.std.specs.Prelude.{None, Some, map, pos, replicate, ◌∷◌}
use Rattle.definitions.specs.Acquisition.{Plan}
use Rattle.definitions.specs.Oscillators.{Settings}
use Rattle.definitions.specs.Commands.{Start, acquire, begin, counts, hold, state, stop, track}
use Rattle.definitions.specs.Answers.{accepted, acquiring, answer_with, channel_view, holding, idle}
use Rattle.definitions.specs.Answers.{life_view, refused, shown, view_of}
use Rattle.definitions.specs.Samples.{real, real1}
use Rattle.std.proofs.Common.{[]}
use Rattle.definitions.specs.BitEdge.{edge_of}
use Rattle.std.specs.Prelude.{false, true}
use Rattle.definitions.specs.Lock.{is_locked}
use Rattle.definitions.specs.Sums.{least_below}
use Rattle.definitions.specs.Loops.{loops_after}
use Rattle.definitions.specs.Events.{pushes_by, pushes_of}
use Rattle.definitions.specs.Lives.{tracked_channel}
use Rattle.definitions.specs.Answers.{tracking}

abbrev usual : Settings
usual = record { rate = 1000; offset = pos 0; packing = real1 }

abbrev hold_seven : Start
hold_seven = hold 7 (pos 0) 0

abbrev life_from : Start → Life
life_from start = record { begun = 5; start = start; wanted = 1; wanted_from = 2 }

answers_to_idle : map (answer_with usual [] None) (begin hold_seven ∷ counts 3 ∷ state ∷ stop ∷ [])
    ≡ accepted ∷ refused 10 ∷ shown idle ∷ refused 10 ∷ []
unfolding view_of
answers_to_idle = refl

answers_to_life : map (answer_with usual [] (Some (life_from hold_seven))) (begin hold_seven
    ∷ counts 3
    ∷ stop ∷ []) ≡ refused 9 ∷ accepted ∷ accepted ∷ []
answers_to_life = refl

-- one sample a millisecond: a dwell of one ends at time 6, and nine samples later two cells are
-- done
abbrev plan_of_three : Plan
plan_of_three = record { prn = 3; centre = pos 0; bins = 0; dwell = 1; threshold = 10 }

view_while_waiting : map (λ start. life_view usual (replicate 15 (real (pos 1)))
    (life_from start) None)
    (acquire plan_of_three ∷ hold_seven ∷ track 7 (pos 0) 0 ∷ [])
    ≡ acquiring 3 2 2046 ∷ idle ∷ idle ∷ []
view_while_waiting = refl

abbrev a_dump : Dump
a_dump = record {
  time = 6;
  counts = record { ie = pos 0; qe = pos 0; ip = pos 1; qp = pos 0; il = pos 0; ql = pos 0 };
}

-- what is held is shown with its dumps alone
view_of_held : channel_view hold_seven (a_dump ∷ a_dump ∷ []) (held_channel 5 7 (pos 0) 0)
    ≡ holding 7 2
view_of_held = refl

-- locked with dump 219, and no push yet: the carrier and the code stand right
view_of_tracked : channel_view (track 7 (pos 0) 0) (replicate 219 a_dump) (tracked_channel 5 7
    (pos 0) 0)
    ≡ tracking 7 219 (record { v = pos 0; w = pos 0 }) true false
unfolding loops_after is_locked pushes_of pushes_by edge_of least_below
view_of_tracked = refl

-- begun at time 5, the search is due at 8190
view_before_due : view_of usual (replicate 8188 (real (pos 1))) (Some (life_from
    (acquire plan_of_three)))
    ≡ acquiring 3 2045 2046
unfolding view_of
view_before_due = refl
