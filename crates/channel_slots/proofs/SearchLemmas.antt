-- What a life emits that searches.
use Rattle.std.proofs.Common.{◌≡◌, ℕ, ◌+◌, ◌<◌, ◌≤◌, List, [], ◌∷◌, ◌++◌, length, take, refl, sym}
use Rattle.std.proofs.Common.{ap, ◌∙◌, subst, arith, length-append, true, false}
use Rattle.std.specs.Prelude.{Bool, ◌&&◌, nat_le, Option, Some, None}
use Rattle.std.specs.Option.{is_some}
use Rattle.std.proofs.lemmas.Bool.{lt-leb, le-leb}
use Rattle.std.proofs.lemmas.List.{length-take}
use Rattle.definitions.specs.Samples.{Sample}
use Rattle.definitions.specs.Oscillators.{Settings}
use Rattle.definitions.specs.Acquisition.{Plan, Cell as DefinedCell, result_of, due_time}
use Rattle.definitions.specs.Acquisition.{cell_count}
use Rattle.definitions.specs.Segments.{Channel, counts_of}
use Rattle.definitions.specs.Commands.{Start, acquire, state}
use Rattle.definitions.specs.Answers.{shown, acquiring, answer_with, view_of}
use Rattle.definitions.specs.Lives.{Life, channel_of, found_channel, dumps_of_life, is_over}
use Rattle.definitions.specs.Lives.{lost_after, is_steered, found_nothing}
use Rattle.definitions.specs.Events.{acquired, life_events}
use Rattle.definitions.proofs.BlockLemmas.{progress-begun}
use Rattle.definitions.proofs.DueLemmas.{acquire-quiet, acquire-tells, acquire-no_dumps}
use Rattle.definitions.proofs.DueLemmas.{due-no_dumps}
use Rattle.definitions.proofs.EndLemmas.{no_counts-not_lost}
use Rattle.acquisition.specs.declared.cell.Cell.{Cell}
use Rattle.acquisition.specs.Cells.{cell_in}
use Rattle.channels.specs.declared.searched.Searched.{Searched}
use Rattle.channels.specs.declared.followed.Followed.{Followed}
use Rattle.channels.specs.Searching as searched
use Rattle.channels.specs.Searching.{Searches, Answers}
use Rattle.channels.specs.FollowedChannels.{counts_so_far}
use Rattle.channels.proofs.SearchedLemmas.{due}
use Rattle.channels.specs.FollowedChannels as followed
use Rattle.channel_slots.specs.declared.stage.Stage.{Stage}
use Rattle.channel_slots.specs.declared.stage.Stage.TheVariants.{Idle, Searching, Following}
use Rattle.channel_slots.specs.Stages.{IsSearched, IsSettled, Follows}
use Rattle.channel_slots.proofs.TakesLemmas.{Takes, Acquired}

-- before the first dump of a channel no signal is lost
pub none-yet : (settings : Settings) (xs : List Sample) (channel : Channel)
    → length xs ≤ channel.start → lost_after (counts_so_far settings channel xs) ≡ None
none-yet settings xs channel early =
    ap (λ p. lost_after (counts_of p.dumps)) (progress-begun settings channel xs early)
    ∙ by_lost (lost_after []) no_counts-not_lost
  where
    by_lost : (o : Option ℕ) → is_some o ≡ false → o ≡ None
    by_lost None e = refl
    by_lost (Some k) e = cc

-- an acquisition that isn't due is on
early-is-on : (settings : Settings) (xs : List Sample) (life : Life) (plan : Plan)
    → life.start ≡ acquire plan → length xs < due_time settings plan life.begun
    → is_over settings xs life ≡ false
unfolding is_over
early-is-on settings xs life plan is early =
    rw (
      not_found life.start is,
      acquire-no_dumps settings xs life plan is early,
      no_counts-not_lost,
    )
    (no-end (is_steered life.start))
  where
    not_found : (start : Start) → start ≡ acquire plan
        → found_nothing settings xs life.begun start ≡ false
    not_found start e =
        rw (e, lt-leb (due_time settings plan life.begun) (length xs) early) refl

    no-end : (b : Bool) → (b && false) ≡ false
    no-end true = refl
    no-end false = refl

module _ (settings : Settings) (xs : List Sample) (life : Life) (a : Searched)
    (s : IsSearched settings xs life a) where
  early : length xs < due_time settings s.plan life.begun
  early = omega (arith, due settings s.plan life.begun xs a s.searches, s.waits)

  pub searched-dumps : dumps_of_life settings xs life ≡ []
  searched-dumps = acquire-no_dumps settings xs life s.plan s.start early

  pub searched-is-on : is_over settings xs life ≡ false
  searched-is-on = early-is-on settings xs life s.plan s.start early

  pub shows-searched : (prn done cells : ℕ) → prn ≡ (searched.plan_of a).prn
      → done ≡ searched.done_of a → cells ≡ cell_count (searched.plan_of a)
      → shown (acquiring prn done cells) ≡ answer_with settings xs (Some life) state
  unfolding view_of
  shows-searched prn done cells prn-is done-is cells-is =
      let same = s.searches.search.plan_is in
      let own : prn ≡ s.plan.prn = prn-is ∙ ap (λ (p : Plan). p.prn) same in
      let all : cells ≡ cell_count s.plan = cells-is ∙ ap (λ (p : Plan). cell_count p) same in
      rw (
        s.start,
        own,
        done-is ∙ s.searches.done,
        all,
        lt-leb (due_time settings s.plan life.begun) (length xs) early,
      ) refl

  module _ (ys : List Sample) where
    both : length (xs ++ ys) ≡ length xs + length ys
    both = simp length-append (omega arith)

    before : (n : ℕ) → length (xs ++ ys) ≡ n → n ≤ due_time settings s.plan life.begun → (j : ℕ)
        → j < length ys → length (xs ++ take j ys) < due_time settings s.plan life.begun
    before n is within j b =
        simp length-append (omega (arith, both, is, within, b, length-take j ys))

    quiet : length (xs ++ ys) ≤ due_time settings s.plan life.begun → (j : ℕ) → j < length ys
        → life_events settings (xs ++ take j ys) (Some life) ≡ []
    quiet within j b =
        acquire-quiet settings (xs ++ take j ys) life s.plan s.start
        (before (length (xs ++ ys)) refl within j b)

    stays-on : length (xs ++ ys) ≤ due_time settings s.plan life.begun → (j : ℕ) → j < length ys
        → is_over settings (xs ++ take j ys) life ≡ false
    stays-on within j b =
        early-is-on settings (xs ++ take j ys) life s.plan s.start
        (before (length (xs ++ ys)) refl within j b)

    -- where its answer isn't due yet
    pub searches-on : (b : Searched) → Searches settings s.plan life.begun (xs ++ ys) b
        → Answers settings s.plan life.begun (xs ++ ys) None
        → Takes settings xs ys life (Searching b) None
    searches-on b searches later = record {
      inside = λ j first below. quiet (omega (arith, later)) j below;
      on = stays-on (omega (arith, later));
      brings = (
        acquire-no_dumps settings (xs ++ ys) life s.plan s.start later ∙ sym searched-dumps,
        acquire-quiet settings (xs ++ ys) life s.plan s.start later,
      );
      follows = record {
        plan = s.plan;
        start = s.start;
        searches = searches;
        waits = omega (arith, later, due settings s.plan life.begun (xs ++ ys) b searches);
      };
    }

    -- where it is due with the last of them
    module _ (prn : ℕ) (cell : Cell) (same : prn ≡ s.plan.prn)
        (answer : Answers settings s.plan life.begun (xs ++ ys) (Some cell)) where
      abbrev named : DefinedCell
      named = result_of settings s.plan (xs ++ ys) life.begun

      come : nat_le (due_time settings s.plan life.begun) (length (xs ++ ys)) ≡ true
      come =
          le-leb (due_time settings s.plan life.begun) (length (xs ++ ys))
          (omega (arith, answer.0))

      found-is : cell.found ≡ named.found
      found-is = ap (λ (c : DefinedCell). c.found) answer.1

      tells : life_events settings (xs ++ ys) (Some life) ≡ acquired prn (cell_in cell) ∷ []
      tells =
          acquire-tells settings (xs ++ ys) life s.plan s.start answer.0
          ∙ ap (λ (c : DefinedCell). acquired s.plan.prn c ∷ []) (sym answer.1)
          ∙ ap (λ n. acquired n (cell_in cell) ∷ []) (sym same)

      over : cell.found ≡ false → is_over settings (xs ++ ys) life ≡ true
      unfolding is_over
      over none = rw (s.start, come, ← found-is, none) refl

      given : cell.found ≡ true
          → channel_of settings (xs ++ ys) life.begun life.start
          ≡ Some (found_channel settings s.plan life.begun named)
      given found = rw (s.start, come, ← found-is, found) refl

      answers : (stage : Stage) → Follows settings (xs ++ ys) life stage
          → Takes settings xs ys life stage (Some (Acquired prn cell))
      answers stage follows = record {
        inside = λ j first below. quiet (omega (arith, answer.0)) j below;
        on = stays-on (omega (arith, answer.0));
        brings = (
          due-no_dumps settings (xs ++ ys) life s.plan s.start answer.0 ∙ sym searched-dumps,
          tells,
        );
        follows = follows;
      }

      -- what was found is tracked
      found : (f : Followed) → followed.is_steered f ≡ true
          → followed.Follows settings (found_channel settings s.plan life.begun (cell_in cell))
          (xs ++ ys) f → cell.found ≡ true
          → Takes settings xs ys life (Following f) (Some (Acquired prn cell))
      found f steered follows here = answers (Following f) (record {
        channel = found_channel settings s.plan life.begun named;
        given = given here;
        steered = rw s.start steered;
        follows = subst (λ (c : DefinedCell). followed.Follows settings
            (found_channel settings s.plan life.begun c) (xs ++ ys) f) answer.1 follows;
        not_lost = λ _. none-yet settings (xs ++ ys)
            (found_channel settings s.plan life.begun named) (omega (arith, answer.0));
      })

      -- where nothing was, the life is over
      not-found : cell.found ≡ false
          → Takes settings xs ys life Idle (Some (Acquired prn cell))
      not-found none = answers Idle (over none)

      pub settled : (b : Searched) → Searches settings s.plan life.begun (xs ++ ys) b
          → (stage : Stage) → IsSettled cell b stage
          → Takes settings xs ys life stage (Some (Acquired prn cell))
      settled b searches Idle is = not-found is
      settled b searches (Searching other) is = absurd is
      settled b searches (Following f) is =
          found f is.2.steered_is
          (is.1 settings s.plan life.begun (xs ++ ys)
          (answer.0 ∙ sym (due settings s.plan life.begun (xs ++ ys) b searches)) searches) is.0

-- a life that begins now
pub starts-searched : (settings : Settings) (xs : List Sample) (life : Life) (a : Searched)
    (plan : Plan) → life.begun ≡ length xs → life.start ≡ acquire plan
    → Searches settings plan (length xs) xs a → length xs < searched.due_of a
    → IsSearched settings xs life a
starts-searched settings xs life a plan begun start searches waits = record {
  plan = plan;
  start = start;
  searches = rw begun searches;
  waits = waits;
}
