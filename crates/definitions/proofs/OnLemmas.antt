-- The life that is on.
use Rattle.std.proofs.Common.{inl, inr, ◌≡◌, ℕ, ◌<◌, List, [], ◌∷◌, ◌++◌, length, take, drop, refl}
use Rattle.std.proofs.Common.{sym, ap, ◌∙◌, arith, append_assoc, append-nil, length-append}
use Rattle.std.specs.Prelude.{Bool, true, false, Option, Some, None, slice_get, cond, ◌⊎◌}
use Rattle.std.proofs.lemmas.List.{take-append-le}
use Rattle.std.proofs.Math.Seq.{take-append_seam}
use Rattle.std.proofs.lemmas.List.{take-append-drop}
use Rattle.definitions.specs.Samples.{Sample}
use Rattle.definitions.specs.Oscillators.{Settings}
use Rattle.definitions.specs.Commands.{Start, Request, TimedRequest, begin, counts, state, stop}
use Rattle.definitions.specs.Lives.{Life, dumps_of_life, is_over, still_on, life_with, life_of}
use Rattle.definitions.specs.Lives.{life_now, life_wanting}
use Rattle.definitions.specs.SlotLaws.{Begins, LifeIsOn}
use Rattle.definitions.proofs.EndLemmas.{is_over-append}
use Rattle.definitions.proofs.BodyLemmas.{life_of-more}
use Rattle.definitions.proofs.DumpLemmas.{slice_get-append, slice_get-last, pushed-at}

-- what is on is the latest life, and it isn't over
on-is : (settings : Settings) (xs : List Sample) (latest : Option Life) (life : Life)
    → still_on settings xs latest ≡ Some life
    → (latest ≡ Some life) × (is_over settings xs life ≡ false)
on-is settings xs None life e = cc
on-is settings xs (Some on) life e = by_test (is_over settings xs on) refl e
  where
    by_test : (b : Bool) → is_over settings xs on ≡ b → cond b None (Some on) ≡ Some life
        → (Some on ≡ Some life) × (is_over settings xs life ≡ false)
    by_test true is e = cc
    by_test false is e = let same : on ≡ life = cc in (e, ap (is_over settings xs) (sym same) ∙ is)

off-is : (settings : Settings) (xs : List Sample) (life : Life)
    → still_on settings xs (Some life) ≡ None → is_over settings xs life ≡ true
off-is settings xs life e = by_test (is_over settings xs life) refl e
  where
    by_test : (b : Bool) → is_over settings xs life ≡ b → cond b None (Some life) ≡ None
        → is_over settings xs life ≡ true
    by_test true is e = is
    by_test false is e = cc

-- the counts that are wanted don't matter for a life's end
life_wanting-over : (settings : Settings) (xs : List Sample) (life : Life) (time n : ℕ)
    → is_over settings xs (life_wanting life time n) ≡ is_over settings xs life
unfolding is_over dumps_of_life
life_wanting-over settings xs life time n = refl

clash : {b : Bool} → b ≡ false → b ≡ true → ⊥
clash f t = cc

-- what is over by a time is over by the last
pub over-stays : (settings : Settings) (xs : List Sample) (t : ℕ) (life : Life)
    → is_over settings (take t xs) life ≡ true → is_over settings xs life ≡ true
over-stays settings xs t life over =
    ap (λ zs. is_over settings zs life) (sym (take-append-drop t xs))
    ∙ is_over-append settings (take t xs) (drop t xs) life over

module _ (settings : Settings) (xs : List Sample) where
  -- a command began the life, and where a `stop` comes after it the life was over
  StoppedLate : List TimedRequest → ℕ → Life → Type 0
  StoppedLate commands i life =
      (j : ℕ) (c : TimedRequest) → i < j → slice_get commands j ≡ Some c → c.request ≡ stop
      → is_over settings xs life ≡ true

  Begun : List TimedRequest → Life → Type 0
  Begun commands life =
      (i : ℕ) × (i < length commands) × Begins settings xs commands i life
      × StoppedLate commands i life

  -- one more command that leaves the life as it is
  kept : (before : List TimedRequest) (c : TimedRequest) (life : Life)
      → (c.request ≡ stop → is_over settings xs life ≡ true) → Begun before life
      → Begun (before ++ c ∷ []) life
  unfolding Begun StoppedLate
  kept before c life late (i, below, begins, stops) = (
    i,
    simp length-append (omega (arith, below)),
    record {
      command = slice_get-append before (c ∷ []) i below ∙ begins.command;
      was_idle = rw (take-append-le i before (c ∷ []) (omega (arith, below))) begins.was_idle;
    },
    λ j d after there is. by_place j d after is (pushed-at before c d j there),
  )
    where
      by_place : (j : ℕ) (d : TimedRequest) → i < j → d.request ≡ stop
          → ((j < length before) × (slice_get before j ≡ Some d)) ⊎ ((j ≡ length before) × (c ≡ d))
          → is_over settings xs life ≡ true
      by_place j d after is (inl old) = stops j d after old.1 is
      by_place j d after is (inr last) = late (ap (λ (x : TimedRequest). x.request) last.1 ∙ is)

  -- one that begins it
  new : (before : List TimedRequest) (c : TimedRequest) (start : Start) → c.request ≡ begin start
      → still_on settings (take c.time xs) (life_of settings xs before) ≡ None
      → Begun (before ++ c ∷ [])
      (record { begun = c.time; start = start; wanted = 0; wanted_from = c.time })
  unfolding Begun StoppedLate
  new before c start is idle = (
    length before,
    simp length-append (omega arith),
    record {
      command = slice_get-last before c ∙ ap (λ r. Some (record { time = c.time; request = r })) is;
      was_idle = rw (take-append_seam before (c ∷ [])) idle;
    },
    λ j d after there stops. by_place j d after (pushed-at before c d j there),
  )
    where
      by_place : (j : ℕ) (d : TimedRequest) → length before < j
          → ((j < length before) × (slice_get before j ≡ Some d)) ⊎ ((j ≡ length before) × (c ≡ d))
          → is_over settings xs
          (record { begun = c.time; start = start; wanted = 0; wanted_from = c.time }) ≡ true
      by_place j d after (inl old) = absurd (omega (arith, after, old.0))
      by_place j d after (inr last) = absurd (omega (arith, after, last.0))

  -- one that asks for counts
  wants : (commands : List TimedRequest) (life : Life) (time n : ℕ) → Begun commands life
      → Begun commands (life_wanting life time n)
  unfolding Begun StoppedLate
  wants commands life time n (i, below, begins, stops) = (
    i,
    below,
    record { command = begins.command; was_idle = begins.was_idle },
    λ j d after there is. life_wanting-over settings xs life time n
        ∙ stops j d after there is,
  )

  Each : List TimedRequest → Type 0
  Each commands = (life : Life) → life_of settings xs commands ≡ Some life → Begun commands life

  step : (before : List TimedRequest) (c : TimedRequest) → Each before → Each (before ++ c ∷ [])
  unfolding Each
  step before c each life is =
      by_request (life_of settings xs before) refl
      (still_on settings (take c.time xs) (life_of settings xs before)) refl c.request refl
      (sym (life_of-more settings xs before c) ∙ is)
    where
      no_stop : (r : Request) → c.request ≡ r → (r ≡ stop → ⊥) → c.request ≡ stop
          → is_over settings xs life ≡ true
      no_stop r is other now = absurd (other (sym is ∙ now))

      by_request : (latest : Option Life) → life_of settings xs before ≡ latest → (on : Option Life)
          → still_on settings (take c.time xs) (life_of settings xs before) ≡ on
          → (r : Request) → c.request ≡ r → life_with latest on c.time r ≡ Some life
          → Begun (before ++ c ∷ []) life
      by_request latest was None idle (begin start) asks e =
          let it : record { begun = c.time; start = start; wanted = 0; wanted_from = c.time }
          ≡ life = cc in
          rw (sym it) (new before c start asks idle)
      by_request latest was (Some on) idle (begin start) asks e =
          kept before c life (no_stop (begin start) asks (λ f. cc)) (each life (was ∙ e))
      by_request latest was None idle (counts n) asks e =
          kept before c life (no_stop (counts n) asks (λ f. cc)) (each life (was ∙ e))
      by_request latest was (Some on) idle (counts n) asks e =
          let it : life_wanting on c.time n ≡ life = cc in
          let was_on = on-is settings (take c.time xs) (life_of settings xs before) on idle in
          rw (sym it) (wants (before ++ c ∷ []) on c.time n
          (kept before c on (λ now. absurd (other (sym asks ∙ now))) (each on was_on.0)))
        where
          other : {n : ℕ} → counts n ≡ stop → ⊥
          other f = cc
      by_request latest was on idle state asks e =
          kept before c life (no_stop state asks (λ f. cc)) (each life (was ∙ e))
      by_request latest was None idle stop asks e =
          kept before c life
          (λ now. over-stays settings xs c.time life
          (off-is settings (take c.time xs) life
          (ap (still_on settings (take c.time xs)) (sym (was ∙ e)) ∙ idle)))
          (each life (was ∙ e))
      by_request latest was (Some on) idle stop asks e = cc

  none-yet : Each []
  unfolding Each life_of
  none-yet life e = cc

  all-begun : (before rest : List TimedRequest) → Each before → Each (before ++ rest)
  all-begun before [] each = rw (append-nil before) each
  all-begun before (c ∷ rest) each =
      rw (sym (append_assoc before (c ∷ []) rest))
      (all-begun (before ++ c ∷ []) rest (step before c each))

pub life-on : LifeIsOn
unfolding Begun StoppedLate Each life_now
life-on settings xs commands life e =
    let on = on-is settings xs (life_of settings xs commands) life e in
    let it = all-begun settings xs [] commands (none-yet settings xs) life on.0 in
    (it.0, it.2, λ j command after there is. clash on.1 (it.3 j command after there is), on.1)
