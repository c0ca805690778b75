-- Worked examples of what a slot emits with its last sample.
use Rattle.std.proofs.Common.{◌≡◌, refl}
use Rattle.definitions.specs.Correlation.{Counts}
use Rattle.definitions.specs.Segments.{Dump}
use Rattle.definitions.specs.Lives.{Life}
use Rattle.std.specs.Prelude.{None, Some, false, map, pos, replicate, true, ◌∷◌}
use Rattle.definitions.specs.Acquisition.{Plan, result_of}
use Rattle.definitions.specs.Oscillators.{Settings}
use Rattle.definitions.specs.Commands.{acquire, hold}
use Rattle.definitions.specs.Events.{acquired, count, due_events, dump_events, edge, events_of}
use Rattle.definitions.specs.Events.{front_of, gap, last_dump_events, last_of, locked, news_events}
use Rattle.definitions.specs.Events.{signal_lost, unlocked, unprinted_count, when}
use Rattle.definitions.specs.Lock.{lock, lost, nothing, unlock}
use Rattle.definitions.specs.Samples.{real, real1}
use Rattle.std.proofs.Common.{[], ℕ, List, ◌++◌, ◌<◌, length, arith}
use Rattle.std.specs.Prelude.{ℤ, Bool, ◌&&◌, not, nat_lt, if◌then◌else◌}
use Rattle.std.proofs.lemmas.Bool.Decides.{nat_tests}
use Rattle.definitions.specs.Events.{Event, bit_events}
use Rattle.definitions.specs.BitEdge.{bits_of, edge_of, has_edge, reset_up_to}
use Rattle.definitions.specs.Lives.{dumps_of_life}
use Rattle.definitions.specs.Frames.{found_by, starts_from, starts_of}
use Rattle.definitions.specs.Lock.{is_locked, news_of}
use Rattle.definitions.specs.Sums.{least_below}
use Rattle.definitions.specs.Events.{life_events, push_events, pushes_by, pushes_of, steered_events}
use Rattle.std.specs.Prelude.{negsuc}
use Rattle.definitions.specs.Commands.{track}
use mathlib.Core.Bool.{xor}

when_or_not : when true edge ∷ when false edge ∷ [] ≡ (edge ∷ []) ∷ [] ∷ []
when_or_not = refl

events_if_any : events_of gap (Some 5) ∷ events_of gap None ∷ [] ≡ (gap 5 ∷ []) ∷ [] ∷ []
events_if_any = refl

ends_of_lists : last_of (edge ∷ locked ∷ []) ≡ Some locked
unfolding last_of
ends_of_lists = refl

fronts_of_lists : front_of (edge ∷ locked ∷ gap 1 ∷ []) ≡ edge ∷ locked ∷ []
unfolding front_of
fronts_of_lists = refl

events_of_news : map news_events (nothing ∷ lock ∷ unlock ∷ lost ∷ [])
    ≡ [] ∷ (locked ∷ []) ∷ (unlocked ∷ []) ∷ (signal_lost ∷ []) ∷ []
events_of_news = refl

-- dumps after time 5 are counted, until two are printed
abbrev held : Life
held = record { begun = 0; start = hold 1 (pos 0) 0; wanted = 2; wanted_from = 5 }

abbrev sums : ℕ → Counts
sums n = record { ie = pos n; qe = pos 0; ip = pos 0; qp = pos 0; il = pos 0; ql = pos 0 }

abbrev dump_at : ℕ → Dump
dump_at time = record { time = time; counts = sums time }

unprinted : map (unprinted_count held) ([] ∷ map dump_at (4 ∷ 5 ∷ []) ∷ map dump_at (4 ∷ 5 ∷ 6 ∷ [])
    ∷ map dump_at (6 ∷ 7 ∷ 8 ∷ []) ∷ []) ≡ 2 ∷ 2 ∷ 1 ∷ 0 ∷ []
unfolding unprinted_count
unprinted = refl

counts_of_held : map (λ dumps. dump_events held (map dump_at dumps) (dump_at 8)) ((6 ∷ 8 ∷ [])
    ∷ (6 ∷ 7 ∷ 8 ∷ []) ∷ []) ≡ (count (sums 8) ∷ []) ∷ [] ∷ []
unfolding unprinted_count front_of
counts_of_held = refl

-- a dump is told with the sample that ends it
dump_at_its_time : map (λ n. last_dump_events held n (dump_at 8 ∷ []) (Some (dump_at 8)))
    (7 ∷ 8 ∷ 9 ∷ []) ≡ [] ∷ (count (sums 8) ∷ []) ∷ [] ∷ []
unfolding unprinted_count front_of
dump_at_its_time = refl

-- a search that begins at time 3, one sample a millisecond, is due at 3 + 1 + 4 * 2046
abbrev coarse : Settings
coarse = record { rate = 1000; offset = pos 0; packing = real1 }

abbrev plan : Plan
plan = record { prn = 7; centre = pos 0; bins = 0; dwell = 1; threshold = 10 }

not_due : map (λ n. due_events coarse (replicate n (real (pos 1))) 3 (acquire plan))
    (8187 ∷ 8189 ∷ []) ≡ [] ∷ [] ∷ []
not_due = refl

due : due_events coarse (replicate 8188 (real (pos 1))) 3 (acquire plan)
    ≡ acquired 7 (result_of coarse plan (replicate 8188 (real (pos 1))) 3) ∷ []
due = refl

-- a search that began at time 3 tells nothing before it is due
nothing_before_due : life_events coarse (replicate 8186 (real (pos 1))) (Some (record {
  begun = 3;
  start = acquire plan;
  wanted = 1;
  wanted_from = 3;
})) ≡ []
unfolding life_events dumps_of_life last_of
nothing_before_due = refl

-- the count of a dump comes before the lock that it brings
abbrev good_dump : Dump
good_dump = record {
  time = 8;
  counts = record { ie = pos 0; qe = pos 0; ip = pos 1; qp = pos 0; il = pos 0; ql = pos 0 };
}

abbrev tracked : Life
tracked = record { begun = 0; start = track 1 (pos 0) 0; wanted = 1000; wanted_from = 0 }

count_before_lock : dump_events tracked (replicate 219 good_dump) good_dump
    ≡ count good_dump.counts ∷ locked ∷ []
unfolding unprinted_count front_of steered_events news_of push_events pushes_of pushes_by is_locked
    bits_of edge_of found_by starts_of starts_from least_below
count_before_lock = refl

-- what a push brings, by whether there is an edge with it and before it, and how many bits there
-- are before it and with it
abbrev brought : List Event → Bool → Bool → ℕ → ℕ → List Event
brought by_bits has had before now =
    when (has && not had) edge ++ (if nat_lt before now then by_bits else [])

abbrev by_bits : List ℤ → List Event
by_bits pushes = bit_events (bits_of pushes) (found_by (bits_of pushes))

-- with the push that brings the edge comes the edge alone: no bit is whole by then
edge_comes : (pushes : List ℤ) → has_edge pushes ≡ true → has_edge (front_of pushes) ≡ false
    → length (bits_of pushes) ≡ 0 → push_events pushes ≡ edge ∷ []
unfolding push_events
edge_comes pushes has had none =
    comes (by_bits pushes) (has_edge pushes) (has_edge (front_of pushes))
    (length (bits_of (front_of pushes))) (length (bits_of pushes)) has had none
  where
    comes : (events : List Event) (b c : Bool) (n m : ℕ) → b ≡ true → c ≡ false → m ≡ 0
        → brought events b c n m ≡ edge ∷ []
    comes events true false n m b c none =
        let is_none : nat_lt n m ≡ false = grind (arith, nat_tests, none) in rw is_none refl
    comes events false false n m b c none = cc
    comes events b true n m eb c none = cc

-- a push after the edge that makes a bit whole brings what the bits report
bit_comes : (pushes : List ℤ) → has_edge (front_of pushes) ≡ true
    → length (bits_of (front_of pushes)) < length (bits_of pushes)
    → push_events pushes ≡ by_bits pushes
unfolding push_events
bit_comes pushes had more =
    comes (by_bits pushes) (has_edge pushes) (has_edge (front_of pushes))
    (length (bits_of (front_of pushes))) (length (bits_of pushes)) had more
  where
    comes : (events : List Event) (b c : Bool) (n m : ℕ) → c ≡ true → n < m
        → brought events b c n m ≡ events
    comes events true true n m c more =
        let is_more : nat_lt n m ≡ true = grind (arith, nat_tests, more) in rw is_more refl
    comes events false true n m c more =
        let is_more : nat_lt n m ≡ true = grind (arith, nat_tests, more) in rw is_more refl
    comes events b false n m c more = cc

-- and any other push after the edge brings nothing
nothing_comes : (pushes : List ℤ) → has_edge (front_of pushes) ≡ true
    → length (bits_of (front_of pushes)) ≡ length (bits_of pushes) → push_events pushes ≡ []
unfolding push_events
nothing_comes pushes had same =
    comes (by_bits pushes) (has_edge pushes) (has_edge (front_of pushes))
    (length (bits_of (front_of pushes))) (length (bits_of pushes)) had same
  where
    comes : (events : List Event) (b c : Bool) (n m : ℕ) → c ≡ true → n ≡ m
        → brought events b c n m ≡ []
    comes events true true n m c same =
        let is_same : nat_lt n m ≡ false = grind (arith, nat_tests, same) in rw is_same refl
    comes events false true n m c same =
        let is_same : nat_lt n m ≡ false = grind (arith, nat_tests, same) in rw is_same refl
    comes events b false n m c same = cc

-- two pushes bring nothing
no_push_events : push_events (pos 1 ∷ negsuc 0 ∷ []) ≡ []
unfolding push_events front_of bits_of edge_of found_by starts_of starts_from least_below
    reset_up_to
    xor
no_push_events = refl
