-- What a life follows: what is shown of it, and what it brings to the life.
use Rattle.std.proofs.Common.{◌≡◌, ℕ, ◌<◌, ◌≤◌, List, [], ◌++◌, length, take, refl, sym, ap}
use Rattle.std.proofs.Common.{◌∙◌, arith, append-nil, true, false}
use Rattle.std.specs.Prelude.{ℤ, Bool, Option, Some, None, is_some}
use Rattle.std.specs.List.{AllByRecursion}
use Rattle.std.proofs.lemmas.List.{length-take, length-map}
use Rattle.definitions.specs.Samples.{Sample}
use Rattle.definitions.specs.Oscillators.{Settings}
use Rattle.definitions.specs.Segments.{Channel, Dump as DefinedDump, Shift, progress, counts_of}
use Rattle.definitions.specs.Lock.{is_locked}
use Rattle.definitions.specs.BitEdge.{has_edge}
use Rattle.definitions.specs.Commands.{Start, hold, track, state}
use Rattle.definitions.specs.Answers.{shown, answer_with, view_of, life_view, channel_view}
use Rattle.definitions.specs.Answers.{holding, tracking, tracking_view}
use Rattle.definitions.specs.Correlation.{Counts}
use Rattle.definitions.specs.Loops.{shift_after}
use Rattle.definitions.specs.Lives.{Life, held_channel, tracked_channel, is_steered}
use Rattle.definitions.specs.Lives.{dumps_of_life, is_over, lost_after, life_wanting}
use Rattle.definitions.specs.Events.{pushes_of}
use Rattle.channels.specs.declared.dump.Dump.{Dump}
use Rattle.channels.specs.declared.followed.Followed.{Followed}
use Rattle.channels.specs.declared.tracking.Tracking.{Tracking}
use Rattle.channels.specs.Trackings.{StandsFor}
use Rattle.channels.proofs.LockedLemmas.{edge-locked}
use Rattle.channels.specs.Dumps.{is_loss, plain_dump}
use Rattle.channels.specs.FollowedChannels as followed
use Rattle.channels.specs.FollowedChannels.{counts_so_far}
use Rattle.channel_slots.specs.declared.stage.Stage.{Stage}
use Rattle.channel_slots.specs.declared.stage.Stage.TheVariants.{Idle, Searching, Following}
use Rattle.channel_slots.specs.Stages.{IsFollowed, Follows, is_idle, after_dump}
use Rattle.channel_slots.proofs.TakesLemmas.{Takes, Brings, Told, Dumped}
use Rattle.channel_slots.proofs.SearchLemmas.{none-yet, searched-dumps, searched-is-on}
use Rattle.channel_slots.proofs.HoldLemmas.{held-given, held-dumps, held-on, held-by-now}
use Rattle.channel_slots.proofs.HoldLemmas.{held-quiet, held-brings}
use Rattle.channel_slots.proofs.TrackLemmas.{more, tracked-dumps, tracked-by-now, tracked-on}
use Rattle.channel_slots.proofs.TrackLemmas.{quiet-dumps, quiet-on, quiet-events, goes-on}
use Rattle.channel_slots.proofs.TrackLemmas.{ends-here, tracked-brings}

-- what is known of a life that is followed, whether loops steer it or not
module _ (settings : Settings) (xs : List Sample) (life : Life) (f : Followed)
    (s : IsFollowed settings xs life f) where
  by-steering : (P : Type 0) → (is_steered life.start ≡ true → P)
      → (is_steered life.start ≡ false → P) → P
  by-steering P loops steady = by_test (is_steered life.start) refl
    where
      by_test : (b : Bool) → is_steered life.start ≡ b → P
      by_test true e = loops e
      by_test false e = steady e

  pub followed-dumps : dumps_of_life settings xs life ≡ (progress settings s.channel xs).dumps
  followed-dumps =
      by-steering _ (tracked-dumps settings xs life f s)
      (λ e. held-dumps settings xs life f s e xs)

  followed-by-now : AllByRecursion (λ (d : DefinedDump). d.time ≤ length xs)
      (dumps_of_life settings xs life)
  followed-by-now =
      by-steering _ (tracked-by-now settings xs life f s) (held-by-now settings xs life f s)

  followed-on : is_over settings xs life ≡ false
  followed-on =
      by-steering _ (tracked-on settings xs life f s)
      (λ e. held-on settings xs life f s e xs)

  -- what is shown of it
  pub followed-view : answer_with settings xs (Some life) state
      ≡ shown (channel_view life.start (progress settings s.channel xs).dumps s.channel)
  unfolding view_of
  followed-view =
      ap (λ o. shown (life_view settings xs life o)) s.given
      ∙ ap (λ ds. shown (channel_view life.start ds s.channel)) followed-dumps

view-held : (start : Start) (ds : List DefinedDump) (channel : Channel)
    → is_steered start ≡ false → channel_view start ds channel ≡ holding channel.prn (length ds)
view-held start ds channel steady = rw steady refl

view-tracked : (start : Start) (ds : List DefinedDump) (channel : Channel)
    → is_steered start ≡ true → channel_view start ds channel
    ≡ tracking_view channel.prn (channel.steering (counts_of ds)) (counts_of ds)
view-tracked start ds channel loops = rw loops refl

module _ (settings : Settings) (xs : List Sample) (life : Life) (f : Followed)
    (s : IsFollowed settings xs life f) (n dumps : ℕ) (prn : n ≡ s.channel.prn)
    (many : dumps ≡ length (progress settings s.channel xs).dumps) where
  -- without loops
  pub shows-held : followed.tracking_of f ≡ None
      → shown (holding n dumps) ≡ answer_with settings xs (Some life) state
  shows-held none =
      let steady : is_steered life.start ≡ false = sym s.steered ∙ ap is_some none in
      rw (prn, many) (sym (followed-view settings xs life f s
      ∙ ap shown (view-held life.start (progress settings s.channel xs).dumps s.channel steady)))

  -- with loops, which show their shift, lock and edge
  pub shows-tracked : (loops : Tracking) (v w : ℤ) (locked edge phase_locked phase_edge : Bool)
      → followed.tracking_of f ≡ Some loops
      → ((settings : Settings) (shift : ℤ) (dumps : List Counts)
      → StandsFor settings shift dumps loops → v ≡ (shift_after shift dumps).v)
      → ((settings : Settings) (shift : ℤ) (dumps : List Counts)
      → StandsFor settings shift dumps loops → w ≡ (shift_after shift dumps).w)
      → ((settings : Settings) (shift : ℤ) (dumps : List Counts)
      → StandsFor settings shift dumps loops → locked ≡ is_locked dumps)
      → ((settings : Settings) (shift : ℤ) (dumps : List Counts)
      → StandsFor settings shift dumps loops → edge ≡ has_edge (pushes_of dumps))
      → phase_edge ≡ edge → ((edge ≡ true → locked ≡ true) → phase_locked ≡ locked)
      → shown (tracking n dumps (record { v = v; w = w }) phase_locked phase_edge)
      ≡ answer_with settings xs (Some life) state
  shows-tracked loops v w locked edge phase_locked phase_edge is v-is w-is lock-is edge-is phase
      same =
      let steered : is_steered life.start ≡ true = sym s.steered ∙ ap is_some is in
      let all : List Counts = counts_so_far settings s.channel xs in
      let has : followed.HasLoops settings s.channel all loops = rw is at s.follows.steers in
      let shift : s.channel.steering all ≡ shift_after has.shift all = has.steered all in
      let lock : locked ≡ is_locked all = lock-is settings has.shift all has.stands in
      let edged : edge ≡ has_edge (pushes_of all) = edge-is settings has.shift all has.stands in
      let known : edge ≡ true → locked ≡ true = λ e. lock ∙ edge-locked _ (sym edged ∙ e) in
      let count : dumps ≡ length all = many
      ∙ sym (length-map (progress settings s.channel xs).dumps (λ (d : DefinedDump). d.counts)) in
      rw (
        prn,
        count,
        v-is settings has.shift all has.stands ∙ ap (λ (d : Shift). d.v) (sym shift),
        w-is settings has.shift all has.stands ∙ ap (λ (d : Shift). d.w) (sym shift),
        same known ∙ lock,
        phase ∙ edged,
      )
      (sym (followed-view settings xs life f s ∙ ap shown (view-tracked life.start
      (progress settings s.channel xs).dumps s.channel steered)))

-- one that takes the samples that waited goes on
pub still-followed : (settings : Settings) (xs : List Sample) (life : Life) (f g : Followed)
    → (s : IsFollowed settings xs life f) → followed.is_steered g ≡ followed.is_steered f
    → followed.Takes settings s.channel xs [] g None → IsFollowed settings xs life g
still-followed settings xs life f g s same took = record {
  channel = s.channel;
  given = s.given;
  steered = same ∙ s.steered;
  follows = rw (append-nil xs) at took.stands;
  not_lost = s.not_lost;
}

-- all dumps are among the samples
pub dumps-by-now : (settings : Settings) (xs : List Sample) (life : Life) (stage : Stage)
    → Follows settings xs life stage → is_idle stage ≡ false
    → AllByRecursion (λ (d : DefinedDump). d.time ≤ length xs) (dumps_of_life settings xs life)
dumps-by-now settings xs life Idle s e = cc
dumps-by-now settings xs life (Searching a) s e = rw (searched-dumps settings xs life a s) tt
dumps-by-now settings xs life (Following f) s e = followed-by-now settings xs life f s

-- a life that is followed is on
pub is-on : (settings : Settings) (xs : List Sample) (life : Life) (stage : Stage)
    → Follows settings xs life stage → is_idle stage ≡ false → is_over settings xs life ≡ false
is-on settings xs life Idle s e = cc
is-on settings xs life (Searching a) s e = searched-is-on settings xs life a s
is-on settings xs life (Following f) s e = followed-on settings xs life f s

-- and where the stage is idle it is over
pub is-past : (settings : Settings) (xs : List Sample) (life : Life) (stage : Stage)
    → Follows settings xs life stage → is_idle stage ≡ true → is_over settings xs life ≡ true
is-past settings xs life Idle s e = s
is-past settings xs life (Searching a) s e = cc
is-past settings xs life (Following f) s e = cc

-- what a stage follows doesn't depend on what is wanted of the life
pub follows-wanting : (settings : Settings) (xs : List Sample) (life : Life) (stage : Stage)
    (time n : ℕ) → Follows settings xs life stage → is_idle stage ≡ false
    → Follows settings xs (life_wanting life time n) stage
follows-wanting settings xs life Idle time n s e = cc
follows-wanting settings xs life (Searching a) time n s e = record {
  plan = s.plan;
  start = s.start;
  searches = s.searches;
  waits = s.waits;
}
follows-wanting settings xs life (Following f) time n s e = record {
  channel = s.channel;
  given = s.given;
  steered = s.steered;
  follows = s.follows;
  not_lost = s.not_lost;
}

-- a life that begins now
pub starts-held : (settings : Settings) (xs : List Sample) (life : Life) (f : Followed) (prn : ℕ)
    (doppler : ℤ) (half_chip : ℕ) → life.begun ≡ length xs
    → life.start ≡ hold prn doppler half_chip → followed.is_steered f ≡ false
    → followed.Follows settings (held_channel (length xs) prn doppler half_chip) xs f
    → IsFollowed settings xs life f
starts-held settings xs life f prn doppler half_chip begun start steady follows = record {
  channel = held_channel (length xs) prn doppler half_chip;
  given = rw (start, begun) refl;
  steered = rw start steady;
  follows = follows;
  not_lost = rw start (λ e. cc);
}

pub starts-tracked : (settings : Settings) (xs : List Sample) (life : Life) (f : Followed)
    (prn : ℕ) (doppler : ℤ) (half_chip : ℕ) → life.begun ≡ length xs
    → life.start ≡ track prn doppler half_chip → followed.is_steered f ≡ true
    → followed.Follows settings (tracked_channel (length xs) prn doppler half_chip) xs f
    → IsFollowed settings xs life f
starts-tracked settings xs life f prn doppler half_chip begun start loops follows = record {
  channel = tracked_channel (length xs) prn doppler half_chip;
  given = rw (start, begun) refl;
  steered = rw start loops;
  follows = follows;
  not_lost = λ _. none-yet settings xs (tracked_channel (length xs) prn doppler half_chip)
      (omega arith);
}

-- a dump as news of its slot
abbrev pub dump_news : Bool → Option Dump → Option Told
dump_news is_shown None = None
dump_news is_shown (Some d) = Some (Dumped d is_shown)

-- what is followed after a dump, if there is one
abbrev pub stage_after : Option Dump → Stage → Stage
stage_after None stage = stage
stage_after (Some d) stage = after_dump d.lock stage

-- a life that is followed, and what ys after xs bring to it
module _ (settings : Settings) (xs ys : List Sample) (life : Life) (f : Followed)
    (s : IsFollowed settings xs life f) (some : 0 < length ys) (is_shown : Bool)
    (g : Followed) (same : followed.is_steered g ≡ followed.is_steered f) where
  still : followed.is_steered g ≡ is_steered life.start
  still = same ∙ s.steered

  tracked-takes : is_steered life.start ≡ true → (d : Option Dump)
      → followed.Takes settings s.channel xs ys g d
      → Takes settings xs ys life (stage_after d (Following g)) (dump_news is_shown d)
  tracked-takes loops d r = record {
    inside = λ j first b.
        quiet-events settings xs life f s loops ys some (take j ys) (r.inside j b)
        (omega (arith, first, b, length-take j ys));
    on = λ j b. quiet-on settings xs life f s loops ys some (take j ys) (r.inside j b);
    brings = by_dump d r;
    follows = after d r;
  }
    where
      by_dump : (d : Option Dump) → followed.Takes settings s.channel xs ys g d
          → Brings settings xs ys life (dump_news is_shown d)
      by_dump None r = (
        quiet-dumps settings xs life f s loops ys some ys r.brings,
        quiet-events settings xs life f s loops ys some ys r.brings some,
      )
      by_dump (Some d) r =
          tracked-brings settings xs life f s loops ys some d g (still ∙ loops) r is_shown

      on-with : followed.Follows settings s.channel (xs ++ ys) g
          → lost_after (counts_so_far settings s.channel (xs ++ ys)) ≡ None
          → IsFollowed settings (xs ++ ys) life g
      on-with follows not_lost = record {
        channel = s.channel;
        given = (more settings xs life f s loops ys).given;
        steered = still;
        follows = follows;
        not_lost = λ _. not_lost;
      }

      by_loss : (d : Dump) (b : Bool) → is_loss d.lock ≡ b
          → followed.Takes settings s.channel xs ys g (Some d)
          → Follows settings (xs ++ ys) life (after_dump d.lock (Following g))
      by_loss d true e r =
          rw e (ends-here settings xs life f s loops ys some d g (still ∙ loops) r e)
      by_loss d false e r =
          rw e (on-with r.stands
          (goes-on settings xs life f s loops ys some d g (still ∙ loops) r e))

      after : (d : Option Dump) → followed.Takes settings s.channel xs ys g d
          → Follows settings (xs ++ ys) life (stage_after d (Following g))
      after None r = on-with r.stands (rw r.brings (s.not_lost loops))
      after (Some d) r = by_loss d (is_loss d.lock) refl r

  held-takes : is_steered life.start ≡ false → (d : Option Dump)
      → followed.Takes settings s.channel xs ys g d
      → Takes settings xs ys life (stage_after d (Following g)) (dump_news is_shown d)
  held-takes steady d r = record {
    inside = λ j first b.
        held-quiet settings xs life f s steady (take j ys)
        (omega (arith, first, b, length-take j ys)) (r.inside j b);
    on = λ j b. held-on settings xs life f s steady (xs ++ take j ys);
    brings = by_dump d r;
    follows = after d r;
  }
    where
      by_dump : (d : Option Dump) → followed.Takes settings s.channel xs ys g d
          → Brings settings xs ys life (dump_news is_shown d)
      by_dump None r = (
        held-dumps settings xs life f s steady (xs ++ ys)
            ∙ ap (λ p. p.dumps) r.brings ∙ sym (held-dumps settings xs life f s steady xs),
        held-quiet settings xs life f s steady ys some r.brings,
      )
      by_dump (Some d) r =
          held-brings settings xs life f s steady ys is_shown d g (still ∙ steady) r

      on-with : followed.Follows settings s.channel (xs ++ ys) g
          → IsFollowed settings (xs ++ ys) life g
      on-with follows = record {
        channel = s.channel;
        given = held-given settings xs life f s steady (xs ++ ys);
        steered = still;
        follows = follows;
        not_lost = λ loops. let clash : true ≡ false = sym loops ∙ steady in cc;
      }

      after : (d : Option Dump) → followed.Takes settings s.channel xs ys g d
          → Follows settings (xs ++ ys) life (stage_after d (Following g))
      after None r = on-with r.stands
      after (Some d) r =
          let plain : d ≡ plain_dump d.counts = rw (still, steady) at r.brings.1 in
          rw plain (on-with r.stands)

  pub followed-takes : (d : Option Dump) → followed.Takes settings s.channel xs ys g d
      → Takes settings xs ys life (stage_after d (Following g)) (dump_news is_shown d)
  followed-takes d r =
      by-steering settings xs life f s _ (λ e. tracked-takes e d r) (λ e. held-takes e d r)
