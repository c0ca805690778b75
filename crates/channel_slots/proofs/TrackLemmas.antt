-- What a life emits that loops steer.
use Rattle.std.proofs.Common.{◌≡◌, ℕ, ◌+◌, ◌<◌, ◌≤◌, List, [], ◌∷◌, ◌++◌, length, take}
use Rattle.std.proofs.Common.{refl, sym, ap, ◌∙◌, arith, length-append, append-nil, true, false}
use Rattle.std.specs.Prelude.{Bool, Option, Some, None, nat_lt}
use Rattle.std.specs.Option.{is_some}
use Rattle.std.specs.List.{AllByRecursion}
use Rattle.std.proofs.Math.Seq.{take-length}
use Rattle.std.proofs.lemmas.List.{length-map, map-append}
use Rattle.definitions.specs.Samples.{Sample}
use Rattle.definitions.specs.Oscillators.{Settings}
use Rattle.definitions.specs.Correlation.{Counts}
use Rattle.definitions.specs.Segments.{Channel, Dump as DefinedDump, counts_of, progress}
use Rattle.definitions.specs.Lock.{News as DefinedNews, news_of, nothing, lock, unlock, lost}
use Rattle.definitions.specs.Lives.{Life, channel_of, is_steered, found_nothing, dumps_of_life}
use Rattle.definitions.specs.Lives.{is_over, lost_after}
use Rattle.definitions.specs.Lives.{until_lost, is_lost_with}
use Rattle.definitions.specs.Events.{unprinted_count, count, life_events, when, last_of}
use Rattle.definitions.specs.Events.{last_dump_events, dump_events, due_events, steered_events}
use Rattle.definitions.proofs.LifeLemmas.{dumps-within}
use Rattle.definitions.proofs.LostLemmas.{lost-more, lost-now}
use Rattle.lane_correlator.specs.Counting.{counts_in}
use Rattle.tracking_loops.specs.NewsIn.{news_in}
use Rattle.tracking_loops.specs.declared.news.News.{News}
use Rattle.tracking_loops.specs.declared.news.News.TheVariants as locks
use Rattle.channels.specs.declared.dump.Dump.{Dump}
use Rattle.channels.specs.declared.followed.Followed.{Followed}
use Rattle.channels.proofs.FollowingLemmas.{channel-begun}
use Rattle.channels.specs.Dumps.{is_loss}
use Rattle.channels.specs.Trackings as trackings
use Rattle.channels.specs.FollowedChannels as followed
use Rattle.channels.specs.FollowedChannels.{counts_so_far}
use Rattle.channel_slots.specs.Stages.{IsFollowed}
use Rattle.channel_slots.proofs.TakesLemmas.{Brings, Dumped}
use Rattle.channel_slots.proofs.SteeredLemmas.{GoesOn, steered-on}
use Rattle.channel_slots.proofs.QuietLemmas.{no-dump-now, dump-now, front-pushed}

-- dumps up to the loss of the signal, where it isn't lost before the last of them
whole-on : (dumps : List DefinedDump) → lost_after (counts_of dumps) ≡ None
    → until_lost dumps ≡ dumps
whole-on dumps e =
    ap (λ (o : Option ℕ). elim o [ Some k ↦ take k dumps | None ↦ dumps ]) e

whole-lost : (dumps : List DefinedDump) → lost_after (counts_of dumps) ≡ Some (length dumps)
    → until_lost dumps ≡ dumps
whole-lost dumps e =
    ap (λ (o : Option ℕ). elim o [ Some k ↦ take k dumps | None ↦ dumps ]) e
    ∙ take-length dumps

abbrev loss_of : DefinedNews → Bool
loss_of news = elim news [ lost ↦ true | nothing ↦ false | lock ↦ false | unlock ↦ false ]

loss-is : (news : News) → loss_of (news_in news) ≡ is_loss news
loss-is locks.Nothing = refl
loss-is locks.Lock = refl
loss-is locks.Unlock = refl
loss-is locks.Lost = refl

module _ (settings : Settings) (life : Life) (channel : Channel)
    (steered : is_steered life.start ≡ true) (xs : List Sample) where
  dump-tells : (dumps : List DefinedDump) (d : DefinedDump)
      → dump_events life (dumps ++ d ∷ []) d
      ≡ when (nat_lt 0 (unprinted_count life dumps)) (count d.counts)
      ++ steered_events (counts_of (dumps ++ d ∷ []))
  dump-tells dumps d = rw (steered, front-pushed dumps d)

  over-is : found_nothing settings xs life.begun life.start ≡ false
      → is_over settings xs life
      ≡ is_some (lost_after (counts_of (dumps_of_life settings xs life)))
  unfolding is_over
  over-is finds = rw (finds, steered)

  events-are : due_events settings xs life.begun life.start ≡ []
      → life_events settings xs (Some life)
      ≡ last_dump_events life (length xs) (dumps_of_life settings xs life)
      (last_of (dumps_of_life settings xs life))
  unfolding life_events
  events-are told = rw told

  module _ (given : channel_of settings xs life.begun life.start ≡ Some channel) where
    dumps-are : dumps_of_life settings xs life ≡ until_lost (progress settings channel xs).dumps
    unfolding dumps_of_life
    dumps-are = rw (given, steered)

    -- while the signal isn't lost the dumps are those of the channel, and the life is on
    all-on : lost_after (counts_so_far settings channel xs) ≡ None
        → dumps_of_life settings xs life ≡ (progress settings channel xs).dumps
    all-on on = dumps-are ∙ whole-on (progress settings channel xs).dumps on

    on-while : found_nothing settings xs life.begun life.start ≡ false
        → lost_after (counts_so_far settings channel xs) ≡ None
        → is_over settings xs life ≡ false
    on-while finds on =
        over-is finds
        ∙ ap (λ (ds : List DefinedDump). is_some (lost_after (counts_of ds))) (all-on on)
        ∙ ap is_some on

module _ (settings : Settings) (xs : List Sample) (life : Life) (f : Followed)
    (s : IsFollowed settings xs life f) (loops : is_steered life.start ≡ true) where
  abbrev pub own : Channel
  own = s.channel

  -- after more samples it is the same life of the same channel
  pub more : (zs : List Sample) → GoesOn settings xs zs life.begun life.start own
  more zs = steered-on settings xs zs life.begun life.start own loops s.given

  pub tracked-dumps : dumps_of_life settings xs life ≡ (progress settings own xs).dumps
  tracked-dumps = all-on settings life own loops xs s.given (s.not_lost loops)

  pub tracked-by-now : AllByRecursion (λ (d : DefinedDump). d.time ≤ length xs)
      (dumps_of_life settings xs life)
  tracked-by-now =
      rw tracked-dumps (dumps-within settings own xs
      (channel-begun settings own xs f.follower s.follows.follows))

  pub tracked-on : is_over settings xs life ≡ false
  tracked-on =
      on-while settings life own loops xs s.given (rw (append-nil xs) at (more []).finds)
      (s.not_lost loops)

  module _ (ys : List Sample) (some : 0 < length ys) where
    both : length (xs ++ ys) ≡ length xs + length ys
    both = simp length-append (omega arith)

    -- where no dump comes
    module _ (zs : List Sample)
        (same : progress settings own (xs ++ zs) ≡ progress settings own xs) where
      still : lost_after (counts_so_far settings own (xs ++ zs)) ≡ None
      still = rw same (s.not_lost loops)

      pub quiet-dumps : dumps_of_life settings (xs ++ zs) life
          ≡ dumps_of_life settings xs life
      quiet-dumps =
          all-on settings life own loops (xs ++ zs) (more zs).given still
          ∙ ap (λ p. p.dumps) same ∙ sym tracked-dumps

      pub quiet-on : is_over settings (xs ++ zs) life ≡ false
      quiet-on =
          on-while settings life own loops (xs ++ zs) (more zs).given (more zs).finds still

      pub quiet-events : 0 < length zs → life_events settings (xs ++ zs) (Some life) ≡ []
      quiet-events some =
          let longer : length xs < length (xs ++ zs) = simp length-append (omega (arith, some)) in
          events-are settings life own loops (xs ++ zs) ((more zs).told some)
          ∙ rw quiet-dumps
          (no-dump-now life (length xs) (length (xs ++ zs)) (dumps_of_life settings xs life)
          tracked-by-now longer)

    -- where one comes with the last sample
    module _ (d : Dump) (g : Followed) (steers : followed.is_steered g ≡ true)
        (took : followed.Takes settings own xs ys g (Some d)) where
      told : trackings.Tells (counts_so_far settings own (xs ++ ys)) d
      told = rw steers at took.brings.1

      abbrev now : DefinedDump
      now = record { time = length (xs ++ ys); counts = counts_in d.counts }

      abbrev before : List Counts
      before = counts_so_far settings own xs

      sums : counts_so_far settings own (xs ++ ys) ≡ before ++ counts_in d.counts ∷ []
      sums =
          ap counts_of took.brings.0
          ∙ map-append (λ (e : DefinedDump). e.counts) (progress settings own xs).dumps (now ∷ [])

      one-more : length (before ++ counts_in d.counts ∷ []) ≡ length before + 1
      one-more = simp length-append (omega arith)

      -- it is the last dump of the life where the loops report so
      lost-is : is_lost_with (before ++ counts_in d.counts ∷ []) (length before + 1)
          ≡ is_loss d.lock
      lost-is =
          let all : List Counts = before ++ counts_in d.counts ∷ [] in
          ap (is_lost_with all) (sym one-more)
          ∙ ap loss_of (ap news_of (take-length all ∙ sym sums) ∙ sym told.lock)
          ∙ loss-is d.lock

      pub goes-on : is_loss d.lock ≡ false
          → lost_after (counts_so_far settings own (xs ++ ys)) ≡ None
      goes-on on = rw sums (lost-more before (counts_in d.counts) (s.not_lost loops) (lost-is ∙ on))

      many : length before + 1 ≡ length (progress settings own (xs ++ ys)).dumps
      many =
          sym one-more ∙ sym (ap length sums)
          ∙ length-map (progress settings own (xs ++ ys)).dumps (λ (e : DefinedDump). e.counts)

      lost-here : is_loss d.lock ≡ true
          → lost_after (counts_so_far settings own (xs ++ ys))
          ≡ Some (length (progress settings own (xs ++ ys)).dumps)
      lost-here now =
          rw (sums, ← many)
          (lost-now before (counts_in d.counts) (s.not_lost loops) (lost-is ∙ now))

      all-dumps : dumps_of_life settings (xs ++ ys) life
          ≡ (progress settings own (xs ++ ys)).dumps
      all-dumps =
          dumps-are settings life own loops (xs ++ ys) (more ys).given
          ∙ by_loss (is_loss d.lock) refl
        where
          by_loss : (b : Bool) → is_loss d.lock ≡ b
              → until_lost (progress settings own (xs ++ ys)).dumps
              ≡ (progress settings own (xs ++ ys)).dumps
          by_loss false e = whole-on (progress settings own (xs ++ ys)).dumps (goes-on e)
          by_loss true e = whole-lost (progress settings own (xs ++ ys)).dumps (lost-here e)

      pub ends-here : is_loss d.lock ≡ true → is_over settings (xs ++ ys) life ≡ true
      ends-here now =
          over-is settings life own loops (xs ++ ys) (more ys).finds
          ∙ ap (λ (ds : List DefinedDump). is_some (lost_after (counts_of ds))) all-dumps
          ∙ ap is_some (lost-here now)

      pub tracked-brings : (is_shown : Bool)
          → Brings settings xs ys life (Some (Dumped d is_shown))
      tracked-brings is_shown =
          let all : dumps_of_life settings (xs ++ ys) life
          ≡ dumps_of_life settings xs life ++ now ∷ [] =
          all-dumps ∙ took.brings.0 ∙ ap (λ ds. ds ++ now ∷ []) (sym tracked-dumps) in (
            all,
            events-are settings life own loops (xs ++ ys) ((more ys).told some)
                ∙ rw all (dump-now life (length (xs ++ ys)) (dumps_of_life settings xs life) now
                refl)
                ∙ dump-tells settings life own loops (xs ++ ys)
                (dumps_of_life settings xs life) now
                ∙ ap (λ es. when (nat_lt 0 (unprinted_count life (dumps_of_life settings xs life)))
                (count (counts_in d.counts)) ++ es)
                (ap (λ ds. steered_events (counts_of ds)) (sym all ∙ all-dumps)
                ∙ sym told.events),
          )
