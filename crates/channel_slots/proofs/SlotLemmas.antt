-- What a slot answers and becomes with a command, and what it emits with a block.
use Rattle.std.proofs.Common.{refl, sym, ◌≡◌, ℕ, zero, suc, ◌+◌, ◌<◌, ◌≤◌, List, [], ◌∷◌, ◌++◌}
use Rattle.std.proofs.Common.{length, take, ap, ◌∙◌, arith, length-append, append-nil, append_assoc}
use Rattle.std.proofs.Common.{subst}
use Rattle.std.specs.Prelude.{Bool, Option, Some, None, map, true, false, nat_lt, ◌-◌}
use Rattle.std.specs.List.{AllByRecursion}
use Rattle.std.proofs.lemmas.List.{length-take, length-take-le}
use Rattle.definitions.specs.Samples.{Sample}
use Rattle.definitions.specs.Oscillators.{Settings}
use Rattle.definitions.specs.Commands.{TimedRequest, Request, counts, state}
use Rattle.definitions.specs.Segments.{Dump as DefinedDump}
use Rattle.definitions.specs.Lives.{Life, life_of, life_now, life_with, life_wanting, still_on}
use Rattle.definitions.specs.Lives.{is_over, dumps_of_life}
use Rattle.definitions.specs.Events.{events_at_end, life_events, front_of, unprinted_count, count}
use Rattle.definitions.specs.Events.{when}
use Rattle.definitions.specs.Answers.{answer_at_end, answer_with, view_of, shown, idle}
use Rattle.definitions.proofs.BodyLemmas.{life_of-append}
use Rattle.definitions.proofs.LifeLemmas.{life_of-command, events-behind, unprinted-more}
use Rattle.definitions.proofs.LifeLemmas.{unprinted-all}
use Rattle.lane_correlator.specs.Counting.{counts_in}
use Rattle.definitions.proofs.EndLemmas.{is_over-append}
use Rattle.channels.specs.Dumps.{steered_events_in}
use Rattle.channel_slots.specs.declared.slot.Slot.{Slot}
use Rattle.slot_protocol.specs.Events.{event_in}
use Rattle.channel_slots.specs.NewsEvents.{dump_events}
use Rattle.slot_protocol.specs.declared.event.Event.{Event}
use Rattle.slot_protocol.specs.declared.event.Event.TheVariants as events
use Rattle.channel_slots.specs.declared.stage.Stage.{Stage}
use Rattle.channel_slots.specs.Stages as stages
use Rattle.channel_slots.specs.Stages.{Follows}
use Rattle.channel_slots.specs.Slots.{StandsFor, Emits, IsOn, HasLife, is_idle}
use Rattle.channel_slots.proofs.NewsLemmas.{all-are}
use Rattle.channel_slots.proofs.QuietLemmas.{on-now, over-now}
use Rattle.channel_slots.proofs.StageLemmas.{dumps-by-now, follows-wanting, is-on, is-past}
use Rattle.channel_slots.proofs.TakesLemmas.{Brings, Takes, Told, Acquired, Dumped}

-- ---- commands that have come by now
pub HaveCome : ℕ → List TimedRequest → Type 0
HaveCome n commands = AllByRecursion (λ (c : TimedRequest). c.time ≤ n) commands

one-more : (n : ℕ) (commands : List TimedRequest) (w : Request) → HaveCome n commands
    → HaveCome n (commands ++ record { time = n; request = w } ∷ [])
unfolding HaveCome
one-more n [] w early = (omega arith, tt)
one-more n (c ∷ commands) w early = (early.0, one-more n commands w early.1)

by-later : (n m : ℕ) (commands : List TimedRequest) → n ≤ m → HaveCome n commands
    → HaveCome m commands
unfolding HaveCome
by-later n m [] h early = tt
by-later n m (c ∷ commands) h early =
    (omega (arith, h, early.0), by-later n m commands h early.1)

-- all but the last of the first j
front-take : {A : Type 0} (j : ℕ) (xs : List A) → j ≤ length xs
    → front_of (take j xs) ≡ take (j - 1) xs
unfolding front_of
front-take j xs h =
    let n : length (take j xs) ≡ j = length-take-le j xs h in
    rw n (take-fewer (j - 1) j xs (omega arith))
  where
    take-fewer : {A : Type 0} (i j : ℕ) (xs : List A) → i ≤ j → take i (take j xs) ≡ take i xs
    take-fewer zero j xs h = refl
    take-fewer (suc i) zero xs h = absurd (omega (arith, h))
    take-fewer (suc i) (suc j) [] h = refl
    take-fewer (suc i) (suc j) (x ∷ xs) h = ap (λ l. x ∷ l) (take-fewer i j xs (omega (arith, h)))

-- ---- the life of a slot

-- a slot whose life the commands have left; it is idle where the life is over
module _ (settings : Settings) (xs : List Sample) (commands : List TimedRequest) (slot : Slot)
    (early : HaveCome (length xs) commands) (life : Life)
    (of : life_of settings xs commands ≡ Some life)
    (follows : Follows settings xs life slot.stage)
    (left : is_idle slot ≡ false
    → slot.unprinted ≡ unprinted_count life (dumps_of_life settings xs life))
    (asked : life.wanted_from ≤ length xs) where
  pub stands-by : StandsFor settings xs commands slot
  unfolding HaveCome
  stands-by = record { early = early; on = by_test (is_idle slot) refl }
    where
      by_test : (b : Bool) → is_idle slot ≡ b → IsOn settings xs commands slot b
      by_test true e = λ ys. over-now settings xs ys commands life early of
          (is_over-append settings xs ys life (is-past settings xs life slot.stage follows e))
      by_test false e = record {
        life = life;
        of = of;
        follows = follows;
        left = left e;
        asked = asked;
      }

-- as many dumps as are wanted from now on are still to be printed
pub all-to-print : (settings : Settings) (xs : List Sample) (life : Life) (stage : Stage)
    (unprinted : ℕ) → Follows settings xs life stage → stages.is_idle stage ≡ false
    → life.wanted_from ≡ length xs → unprinted ≡ life.wanted
    → unprinted ≡ unprinted_count life (dumps_of_life settings xs life)
all-to-print settings xs life stage unprinted follows on from left =
    left ∙ sym (unprinted-all life (dumps_of_life settings xs life)
    (subst (λ n. AllByRecursion (λ (d : DefinedDump). d.time ≤ n) (dumps_of_life settings xs life))
    (sym from) (dumps-by-now settings xs life stage follows on)))

-- the events of what is told
abbrev pub events_told : Option Told → List Event
events_told None = []
events_told (Some (Acquired prn cell)) = events.Acquired prn cell ∷ []
events_told (Some (Dumped d is_shown)) = dump_events is_shown d

-- what is left to print after samples that bring news
abbrev pub Prints : ℕ → ℕ → Option Told → Type 0
Prints before after None = after ≡ before
Prints before after (Some (Acquired prn cell)) = after ≡ before
Prints before after (Some (Dumped d is_shown)) =
    (is_shown ≡ nat_lt 0 before) × (after ≡ before - 1)

module _ (settings : Settings) (xs : List Sample) (commands : List TimedRequest) (slot : Slot)
    (s : StandsFor settings xs commands slot) where
  idle-on : is_idle slot ≡ true → (ys : List Sample) → life_now settings (xs ++ ys) commands ≡ None
  idle-on e = rw e at s.on

  pub idle-now : is_idle slot ≡ true → life_now settings xs commands ≡ None
  idle-now e = rw (append-nil xs) at (idle-on e [])

  pub has-life : is_idle slot ≡ false → HasLife settings xs commands slot
  has-life e = rw e at s.on

  pub life-now : (e : is_idle slot ≡ false)
      → life_now settings xs commands ≡ Some (has-life e).life
  life-now e = let i = has-life e in
      rw (append-nil xs) at (on-now settings xs [] commands i.life s.early i.of
      (rw (append-nil xs) (is-on settings xs i.life slot.stage i.follows e)))

  -- ---- what it answers, by the life that is on
  pub answers : (w : Request) (life : Option Life) → life_now settings xs commands ≡ life
      → answer_with settings xs life w ≡ answer_at_end settings xs commands w
  unfolding answer_at_end
  answers w life now = rw now

  -- an idle slot shows that it is
  pub idle-shown : is_idle slot ≡ true → shown idle ≡ answer_at_end settings xs commands state
  unfolding answer_at_end view_of
  idle-shown e = rw (idle-now e)

  -- ---- what it becomes
  -- the latest life with a command, by the lives before it
  latest : (w : Request) (last life : Option Life) → life_of settings xs commands ≡ last
      → life_now settings xs commands ≡ life
      → life_of settings xs (commands ++ record { time = length xs; request = w } ∷ [])
      ≡ life_with last life (length xs) w
  latest w last life of now =
      life_of-command settings xs commands w
      ∙ ap (λ l. life_with l (life_now settings xs commands) (length xs) w) of
      ∙ ap (λ l. life_with last l (length xs) w) now

  with-it : Request → List TimedRequest
  with-it w = commands ++ record { time = length xs; request = w } ∷ []

  -- an idle slot that the command changes nothing of
  pub stays-idle : (e : is_idle slot ≡ true) → (w : Request)
      → life_with (life_of settings xs commands) None (length xs) w
      ≡ life_of settings xs commands
      → StandsFor settings xs (commands ++ record { time = length xs; request = w } ∷ []) slot
  unfolding life_now with-it HaveCome
  stays-idle e w is = record {
    early = one-more (length xs) commands w s.early;
    on = rw e (λ ys. ap (still_on settings (xs ++ ys))
        (life_of-append settings xs ys (with-it w) (one-more (length xs) commands w s.early)
        ∙ latest w _ None refl (idle-now e) ∙ is
        ∙ sym (life_of-append settings xs ys commands s.early)) ∙ idle-on e ys);
  }

  -- one that the command makes idle
  pub becomes-idle : (w : Request) (last life : Option Life) (new : Slot)
      → life_of settings xs commands ≡ last → life_now settings xs commands ≡ life
      → life_with last life (length xs) w ≡ None → is_idle new ≡ true
      → StandsFor settings xs (commands ++ record { time = length xs; request = w } ∷ []) new
  unfolding life_now with-it HaveCome
  becomes-idle w last life new of now none e = record {
    early = one-more (length xs) commands w s.early;
    on = rw e (λ ys. ap (still_on settings (xs ++ ys))
        (life_of-append settings xs ys (with-it w) (one-more (length xs) commands w s.early)
        ∙ latest w last life of now ∙ none));
  }

  -- one with a life after the command
  pub becomes-on : (w : Request) (last life : Option Life) (new : Life) (kept : Slot)
      → life_of settings xs commands ≡ last → life_now settings xs commands ≡ life
      → life_with last life (length xs) w ≡ Some new
      → Follows settings xs new kept.stage
      → (is_idle kept ≡ false
      → kept.unprinted ≡ unprinted_count new (dumps_of_life settings xs new))
      → new.wanted_from ≤ length xs
      → StandsFor settings xs (commands ++ record { time = length xs; request = w } ∷ []) kept
  unfolding HaveCome
  becomes-on w last life new kept of now some follows left asked =
      stands-by settings xs (commands ++ record { time = length xs; request = w } ∷ []) kept
      (one-more (length xs) commands w s.early) new (latest w last life of now ∙ some)
      follows left asked

  -- one whose life the command changes nothing of
  pub keeps-on : is_idle slot ≡ false → (w : Request)
      → ((life : Life) → life_with (Some life) (Some life) (length xs) w ≡ Some life)
      → StandsFor settings xs (commands ++ record { time = length xs; request = w } ∷ []) slot
  keeps-on e w same = let i = has-life e in
      becomes-on w (Some i.life) (Some i.life) i.life slot i.of (life-now e) (same i.life)
      i.follows (λ on. i.left) i.asked

  -- one that is asked to print other dumps
  pub prints : is_idle slot ≡ false → (n : ℕ) (new : Slot) → new.stage ≡ slot.stage
      → new.unprinted ≡ n
      → StandsFor settings xs (commands ++ record { time = length xs; request = counts n } ∷ []) new
  prints e n new same left =
      let i = has-life e in
      let life : Life = life_wanting i.life (length xs) n in
      let follows : Follows settings xs life new.stage =
      rw same (follows-wanting settings xs i.life slot.stage (length xs) n i.follows e) in
      becomes-on (counts n) (Some i.life) (Some i.life) life new i.of (life-now e) refl
      follows (λ on. all-to-print settings xs life new.stage new.unprinted follows on refl left)
      (omega arith)

  -- one that is shown, whatever it is
  pub shown-stays : StandsFor settings xs (commands
      ++ record { time = length xs; request = state } ∷ []) slot
  shown-stays = by_test (is_idle slot) refl
    where
      by_test : (b : Bool) → is_idle slot ≡ b → StandsFor settings xs (commands
          ++ record { time = length xs; request = state } ∷ []) slot
      by_test true e = stays-idle e state refl
      by_test false e = keeps-on e state (λ life. refl)

  -- one that has taken the samples that waited
  pub passes : is_idle slot ≡ false → (new : Slot) → new.unprinted ≡ slot.unprinted
      → ((life : Life) → Follows settings xs life slot.stage
      → Follows settings xs life new.stage)
      → StandsFor settings xs commands new
  unfolding HaveCome
  passes e new left follows =
      let i = has-life e in
      stands-by settings xs commands new s.early i.life i.of (follows i.life i.follows)
      (λ on. left ∙ i.left) i.asked

  -- ---- what it emits with ys after xs
  module _ (ys : List Sample) (some : 0 < length ys) where
    both : length (xs ++ ys) ≡ length xs + length ys
    both = simp length-append (omega arith)

    come : HaveCome (length (xs ++ ys)) commands
    unfolding HaveCome
    come = by-later (length xs) (length (xs ++ ys)) commands (omega (arith, both)) s.early

    tells-none : (zs : List Sample) → 0 < length zs → is_idle slot ≡ true
        → events_at_end settings (xs ++ zs) commands ≡ []
    unfolding life_events
    tells-none zs more e =
        events-behind settings xs zs commands more
        ∙ ap (life_events settings (xs ++ zs)) (idle-on e (front_of zs))

    pub idle-tells : is_idle slot ≡ true → (new : Slot) → is_idle new ≡ true
        → Emits settings xs ys commands new []
    unfolding HaveCome
    idle-tells e new still = record {
      inside = λ j first b. tells-none (take j ys) (omega (arith, length-take j ys)) e;
      told = sym (tells-none ys some e);
      stands = record {
        early = come;
        on = rw still (λ zs. rw (append_assoc xs ys zs) (idle-on e (ys ++ zs)));
      };
    }

    -- what the stage brings is what the slot emits
    module _ (e : is_idle slot ≡ false) (new : Slot) (news : Option Told)
        (takes : (life : Life) → Follows settings xs life slot.stage
        → Takes settings xs ys life new.stage news)
        (printed : Prints slot.unprinted new.unprinted news) where
      own : HasLife settings xs commands slot
      own = has-life e

      took : Takes settings xs ys own.life new.stage news
      took = takes own.life own.follows

      -- what is emitted by a life that is on before the last of these
      told-by : (zs : List Sample) → 0 < length zs
          → is_over settings (xs ++ front_of zs) own.life ≡ false
          → events_at_end settings (xs ++ zs) commands
          ≡ life_events settings (xs ++ zs) (Some own.life)
      told-by zs more on =
          events-behind settings xs zs commands more
          ∙ ap (life_events settings (xs ++ zs))
          (on-now settings xs (front_of zs) commands own.life s.early own.of on)

      quiet : (j : ℕ) → 0 < j → j < length ys
          → events_at_end settings (xs ++ take j ys) commands ≡ []
      quiet j first b =
          told-by (take j ys) (omega (arith, first, b, length-take j ys))
          (rw (front-take j ys (omega (arith, b))) (took.on (j - 1) (omega (arith, b))))
          ∙ took.inside j first b

      emitted : (o : Option Told) → Brings settings xs ys own.life o
          → Prints slot.unprinted new.unprinted o
          → map event_in (events_told o) ≡ life_events settings (xs ++ ys) (Some own.life)
      emitted None brings left = sym brings.1
      emitted (Some (Acquired prn cell)) brings left = sym brings.1
      emitted (Some (Dumped d is_shown)) brings left =
          all-are d is_shown
          ∙ ap (λ b. when b (count (counts_in d.counts)) ++ steered_events_in d)
          (left.0 ∙ ap (nat_lt 0) own.left) ∙ sym brings.1

      left-after : (o : Option Told) → Brings settings xs ys own.life o
          → Prints slot.unprinted new.unprinted o → new.unprinted
          ≡ unprinted_count own.life (dumps_of_life settings (xs ++ ys) own.life)
      left-after None brings left =
          left ∙ own.left ∙ ap (unprinted_count own.life) (sym brings.0)
      left-after (Some (Acquired prn cell)) brings left =
          left ∙ own.left ∙ ap (unprinted_count own.life) (sym brings.0)
      left-after (Some (Dumped d is_shown)) brings left =
          let now : DefinedDump =
          record { time = length (xs ++ ys); counts = counts_in d.counts } in
          left.1 ∙ ap (λ n. n - 1) own.left
          ∙ sym (unprinted-more own.life (dumps_of_life settings xs own.life) now
          (omega (arith, own.asked, both, some)))
          ∙ ap (unprinted_count own.life) (sym brings.0)

      pub tells : Emits settings xs ys commands new (events_told news)
      unfolding front_of
      tells = record {
        inside = quiet;
        told = emitted news took.brings printed
            ∙ sym (told-by ys some (took.on (length ys - 1) (omega (arith, some))));
        stands = stands-by settings (xs ++ ys) commands new come own.life
            (life_of-append settings xs ys commands s.early ∙ own.of) took.follows
            (λ on. left-after news took.brings printed) (omega (arith, own.asked, both));
      }

-- before the first sample and command
pub stands-new : (settings : Settings) (slot : Slot) → is_idle slot ≡ true
    → StandsFor settings [] [] slot
unfolding life_now life_of
stands-new settings slot e = record { early = tt; on = rw e (λ ys. refl) }
