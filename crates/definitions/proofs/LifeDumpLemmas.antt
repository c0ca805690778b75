-- The dumps of a life are those of its channel.
use Rattle.std.proofs.Common.{◌≡◌, ℕ, zero, suc, List, [], ◌∷◌, take, refl}
use Rattle.std.specs.Prelude.{Bool, true, false, Option, Some, None, slice_get, if◌then◌else◌}
use Rattle.definitions.specs.Samples.{Sample}
use Rattle.definitions.specs.Oscillators.{Settings}
use Rattle.definitions.specs.Segments.{Channel, Dump, counts_of, dumps_of}
use Rattle.definitions.specs.Lives.{Life, channel_of, is_steered, until_lost, lost_after}
use Rattle.definitions.specs.Lives.{dumps_of_channel, dumps_of_life}

took-at : {A : Type 0} (m : ℕ) (xs : List A) (k : ℕ) (x : A) → slice_get (take m xs) k ≡ Some x
    → slice_get xs k ≡ Some x
took-at zero xs k x e = cc
took-at (suc m) [] k x e = cc
took-at (suc m) (y ∷ ys) zero x e = e
took-at (suc m) (y ∷ ys) (suc k) x e = took-at m ys k x e

until_lost-at : (dumps : List Dump) (k : ℕ) (d : Dump) → slice_get (until_lost dumps) k ≡ Some d
    → slice_get dumps k ≡ Some d
until_lost-at dumps k d e = by_lost (lost_after (counts_of dumps)) e
  where
    by_lost : (o : Option ℕ)
        → slice_get (elim o [ Some m ↦ take m dumps | None ↦ dumps ]) k ≡ Some d
        → slice_get dumps k ≡ Some d
    by_lost None e = e
    by_lost (Some m) e = took-at m dumps k d e

-- a dump of a life is one of its channel
pub life-dump : (settings : Settings) (xs : List Sample) (life : Life) (k : ℕ) (d : Dump)
    → slice_get (dumps_of_life settings xs life) k ≡ Some d
    → (channel : Channel) × (channel_of settings xs life.begun life.start ≡ Some channel)
    × (slice_get (dumps_of settings channel xs) k ≡ Some d)
unfolding dumps_of_life
life-dump settings xs life k d e = by_channel (channel_of settings xs life.begun life.start) refl e
  where
    by_steered : (channel : Channel) (b : Bool)
        → slice_get (if b then until_lost (dumps_of settings channel xs) else dumps_of settings
        channel xs) k ≡ Some d → slice_get (dumps_of settings channel xs) k ≡ Some d
    by_steered channel true e = until_lost-at (dumps_of settings channel xs) k d e
    by_steered channel false e = e

    by_channel : (o : Option Channel) → channel_of settings xs life.begun life.start ≡ o
        → slice_get (dumps_of_channel settings xs life.start o) k ≡ Some d
        → (channel : Channel) × (channel_of settings xs life.begun life.start ≡ Some channel)
        × (slice_get (dumps_of settings channel xs) k ≡ Some d)
    by_channel None is e = cc
    by_channel (Some channel) is e = (channel, is, by_steered channel (is_steered life.start) e)
