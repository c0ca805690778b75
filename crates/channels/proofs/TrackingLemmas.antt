-- What loops with a message tell of a dump that they take.
use Rattle.std.proofs.Common.{◌≡◌, ℤ, List, ◌∷◌, [], ◌++◌, refl, sym}
use Rattle.std.specs.Prelude.{Bool}
use Rattle.definitions.specs.Oscillators.{Settings}
use Rattle.definitions.specs.Correlation.{Counts}
use Rattle.definitions.specs.Lock.{news_of, is_locked}
use Rattle.definitions.specs.Events.{pushes_of, push_events, steered_events}
use Rattle.lane_correlator.specs.Counting.{counts_in}
use Rattle.tracking_loops.specs.NewsIn.{news_in}
use Rattle.tracking_loops.specs.Standing as loops
use Rattle.tracking_loops.specs.declared.loops.Loops.{Loops}
use Rattle.nav_message.specs.News.{events_in}
use Rattle.channels.specs.LockedMessages as messages
use Rattle.channels.specs.declared.dump.Dump.{Dump}
use Rattle.channels.specs.declared.tracking.Tracking.{Tracking}
use Rattle.channels.specs.Trackings.{StandsFor, Tells}

-- `after` are the loops with the dump, and `locked` says whether they are locked
pub tells : (settings : Settings) (shift : ℤ) (dumps : List Counts) (old : Tracking)
    (after : Loops) (d : Dump) (locked : Bool) → StandsFor settings shift dumps old
    → ((start : ℤ) (dumps : List Counts) → loops.StandsFor start dumps old.loops
    → loops.StandsFor start (dumps ++ counts_in d.counts ∷ []) after)
    → ((start : ℤ) (dumps : List Counts) → loops.StandsFor start dumps after
    → locked ≡ is_locked dumps)
    → ((start : ℤ) (dumps : List Counts) → loops.StandsFor start dumps old.loops
    → news_in d.lock ≡ news_of (dumps ++ counts_in d.counts ∷ []))
    → ((dumps : List Counts) → messages.StandsFor dumps old.message
    → is_locked (dumps ++ counts_in d.counts ∷ []) ≡ locked
    → events_in d.message ≡ push_events (pushes_of (dumps ++ counts_in d.counts ∷ [])))
    → Tells (dumps ++ counts_in d.counts ∷ []) d
unfolding steered_events
tells settings shift dumps old after d locked s stand locked-is news pushed =
    let now : is_locked (dumps ++ counts_in d.counts ∷ []) ≡ locked =
    sym (locked-is shift (dumps ++ counts_in d.counts ∷ []) (stand shift dumps s.loops)) in
    record {
      lock = news shift dumps s.loops;
      events = rw (news shift dumps s.loops, pushed dumps s.message now) refl;
    }
