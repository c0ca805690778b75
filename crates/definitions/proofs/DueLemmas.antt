-- What an acquiring life emits.
use Rattle.std.proofs.Common.{◌≡◌, ℕ, ◌<◌, List, [], ◌∷◌, ◌++◌, length, refl, sym}
use Rattle.std.proofs.Common.{ap, ◌∙◌, arith, append-nil}
use Rattle.std.specs.Prelude.{Bool, true, false, Some, None, nat_le, ◌&&◌}
use Rattle.std.specs.Prelude.{if◌then◌else◌}
use Rattle.std.proofs.lemmas.Bool.{lt-leb, ne_eqb, eq-eqb}
use Rattle.definitions.specs.Sums.{least_below}
use Rattle.definitions.specs.Samples.{Sample}
use Rattle.definitions.specs.Oscillators.{Settings}
use Rattle.definitions.specs.Segments.{Channel, Progress, Dump, dumps_of}
use Rattle.definitions.specs.Lock.{news_of}
use Rattle.definitions.specs.Acquisition.{Plan, result_of, due_time}
use Rattle.definitions.specs.Commands.{Start, acquire}
use Rattle.definitions.specs.Lives.{until_lost, Life, found_channel}
use Rattle.definitions.specs.Lives.{dumps_of_channel, channel_of, dumps_of_life}
use Rattle.definitions.specs.Events.{Event, acquired, due_events, last_dump_events, last_of}
use Rattle.definitions.specs.Events.{life_events}
use Rattle.definitions.proofs.BlockLemmas.{progress-begun}

no_channel : (settings : Settings) (xs : List Sample) (begun : ℕ) (start : Start) (plan : Plan)
    → start ≡ acquire plan → length xs < due_time settings plan begun
    → dumps_of_channel settings xs start (channel_of settings xs begun start) ≡ []
no_channel settings xs begun start plan e h =
    rw (e, lt-leb (due_time settings plan begun) (length xs) h)

none_due : (settings : Settings) (xs : List Sample) (begun : ℕ) (start : Start) (plan : Plan)
    → start ≡ acquire plan → length xs < due_time settings plan begun
    → due_events settings xs begun start ≡ []
none_due settings xs begun start plan e h =
    rw (e, ne_eqb (due_time settings plan begun) (length xs) (λ same. omega (arith, same, h)))

no_dump_events : (life : Life) (n : ℕ) → last_dump_events life n [] (last_of []) ≡ []
unfolding last_of
no_dump_events life n = refl

-- before the due time it has no dump
pub acquire-no_dumps : (settings : Settings) (xs : List Sample) (life : Life) (plan : Plan)
    → life.start ≡ acquire plan → length xs < due_time settings plan life.begun
    → dumps_of_life settings xs life ≡ []
unfolding dumps_of_life
acquire-no_dumps settings xs life plan is h =
    no_channel settings xs life.begun life.start plan is h

-- before the due time it emits nothing
pub acquire-quiet : (settings : Settings) (xs : List Sample) (life : Life) (plan : Plan)
    → life.start ≡ acquire plan → length xs < due_time settings plan life.begun
    → life_events settings xs (Some life) ≡ []
unfolding dumps_of_life life_events
acquire-quiet settings xs life plan is h =
    ap (λ (ds : List Dump). due_events settings xs life.begun life.start
    ++ last_dump_events life (length xs) ds (last_of ds))
    (no_channel settings xs life.begun life.start plan is h)
    ∙ ap (λ (l : List Event). due_events settings xs life.begun life.start ++ l)
    (no_dump_events life (length xs))
    ∙ append-nil (due_events settings xs life.begun life.start)
    ∙ none_due settings xs life.begun life.start plan is h

-- at the due time the cell is emitted; a channel that starts there has no dump yet
due_told : (settings : Settings) (xs : List Sample) (begun : ℕ) (start : Start) (plan : Plan)
    → start ≡ acquire plan → length xs ≡ due_time settings plan begun
    → due_events settings xs begun start ≡ acquired plan.prn (result_of settings plan xs begun) ∷ []
due_told settings xs begun start plan e h =
    rw (e, eq-eqb (due_time settings plan begun) (length xs) (sym h))

not_lost_yet : until_lost [] ≡ []
unfolding least_below news_of
not_lost_yet = refl

no_dumps_yet : (settings : Settings) (xs : List Sample) (begun : ℕ) (start : Start) (plan : Plan)
    → start ≡ acquire plan → length xs ≡ due_time settings plan begun
    → dumps_of_channel settings xs start (channel_of settings xs begun start) ≡ []
no_dumps_yet settings xs begun start plan e h =
    rw e (by_found (nat_le (due_time settings plan begun) (length xs)
    && (result_of settings plan xs begun).found))
  where
    channel : Channel
    channel = found_channel settings plan begun (result_of settings plan xs begun)

    none : dumps_of settings channel xs ≡ []
    none = ap (λ (p : Progress). p.dumps) (progress-begun settings channel xs (omega (arith, h)))

    by_found : (b : Bool)
        → dumps_of_channel settings xs (acquire plan) (if b then Some channel else None) ≡ []
    by_found true = rw none not_lost_yet
    by_found false = refl

pub acquire-tells : (settings : Settings) (xs : List Sample) (life : Life) (plan : Plan)
    → life.start ≡ acquire plan → length xs ≡ due_time settings plan life.begun
    → life_events settings xs (Some life)
    ≡ acquired plan.prn (result_of settings plan xs life.begun) ∷ []
unfolding dumps_of_life life_events
acquire-tells settings xs life plan is h =
    ap (λ (ds : List Dump). due_events settings xs life.begun life.start
    ++ last_dump_events life (length xs) ds (last_of ds))
    (no_dumps_yet settings xs life.begun life.start plan is h)
    ∙ ap (λ (l : List Event). due_events settings xs life.begun life.start ++ l)
    (no_dump_events life (length xs))
    ∙ append-nil (due_events settings xs life.begun life.start)
    ∙ due_told settings xs life.begun life.start plan is h

-- nor has it one at the due time
pub due-no_dumps : (settings : Settings) (xs : List Sample) (life : Life) (plan : Plan)
    → life.start ≡ acquire plan → length xs ≡ due_time settings plan life.begun
    → dumps_of_life settings xs life ≡ []
unfolding dumps_of_life
due-no_dumps settings xs life plan is h =
    no_dumps_yet settings xs life.begun life.start plan is h
