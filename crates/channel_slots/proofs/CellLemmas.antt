-- How many cells a search has done: what is shown of it, and how many more they are after a run.
use Rattle.std.proofs.Common.{◌≡◌, ◌≤◌, ◌+◌, ◌/◌, ◌++◌, ◌∷◌, ◌∙◌, ℕ, zero, suc}
use Rattle.std.proofs.Common.{List, [], drop, length, length-append, get_or, refl, sym, ap, arith}
use Rattle.std.specs.Prelude.{Bool, true, false, nat_eq, Some, None}
use Rattle.std.specs.Prelude.{◌&&◌, if◌then◌else◌}
use Rattle.std.specs.List.{AllByRecursion}
use Rattle.std.proofs.lemmas.Bool.{eq-eqb, and_parts, eqb-true}
use Rattle.definitions.specs.Samples.{Sample}
use Rattle.definitions.specs.Oscillators.{Settings}
use Rattle.definitions.specs.Acquisition.{cells_done}
use Rattle.definitions.specs.Commands.{TimedRequest, state}
use Rattle.definitions.specs.Lives.{Life, is_steered}
use Rattle.definitions.specs.Answers.{View, answer_at_end, answer_with}
use Rattle.definitions.proofs.CellLemmas.{cells-come}
use Rattle.definitions.proofs.BodyLemmas.{life_of-append}
use Rattle.channel_slots.specs.declared.stage.Stage.{Stage}
use Rattle.channel_slots.specs.declared.stage.Stage.TheVariants.{Idle, Searching, Following}
use Rattle.channel_slots.specs.declared.slot.Slot.{Slot}
use Rattle.channel_slots.specs.declared.seat.Seat.{Seat}
use Rattle.slot_protocol.specs.Answers.{cells_shown, cells_in_view}
use Rattle.channel_slots.specs.Stages as stages
use Rattle.channel_slots.specs.Stages.{Follows}
use Rattle.channel_slots.specs.Slots.{StandsFor, is_idle, cells_done_of}
use Rattle.channel_slots.specs.Banks.{cells_done_at, keys_of, IsAt}
use Rattle.channel_slots.proofs.SearchLemmas.{shows-searched}
use Rattle.channel_slots.proofs.StageLemmas.{followed-view}
use Rattle.channel_slots.proofs.SlotLemmas.{has-life, life-now, answers, idle-shown}
use Rattle.channel_slots.proofs.CommandLemmas.{Once, once-tail, not-first, found}

-- ---- what is shown

none-either : (b : Bool) (x y : View) → cells_in_view x ≡ None → cells_in_view y ≡ None
    → None ≡ cells_in_view (if b then x else y)
none-either true x y no-x no-y = sym no-x
none-either false x y no-x no-y = sym no-y

shown-of : (settings : Settings) (xs : List Sample) (life : Life) (stage : Stage)
    → Follows settings xs life stage → stages.is_idle stage ≡ false
    → stages.cells_done_of stage ≡ cells_shown (answer_with settings xs (Some life) state)
shown-of settings xs life Idle s e = cc
shown-of settings xs life (Searching a) s e =
    ap cells_shown (shows-searched settings xs life a s _ _ _ refl refl refl)
shown-of settings xs life (Following f) s e =
    none-either (is_steered life.start) _ _ refl refl
    ∙ ap cells_shown (sym (followed-view settings xs life f s))

pub cells-shown : (settings : Settings) (xs : List Sample) (commands : List TimedRequest)
    (slot : Slot) → StandsFor settings xs commands slot
    → cells_done_of slot ≡ cells_shown (answer_at_end settings xs commands state)
cells-shown settings xs commands slot s = by_test (is_idle slot) refl
  where
    none : (stage : Stage) → stages.is_idle stage ≡ true → stages.cells_done_of stage ≡ None
    none Idle e = refl
    none (Searching a) e = cc
    none (Following f) e = cc

    by_test : (b : Bool) → is_idle slot ≡ b
        → cells_done_of slot ≡ cells_shown (answer_at_end settings xs commands state)
    by_test true e =
        none slot.stage e ∙ ap cells_shown (idle-shown settings xs commands slot s e)
    by_test false e =
        let i = has-life settings xs commands slot s e in
        shown-of settings xs i.life slot.stage i.follows e
        ∙ ap cells_shown (answers settings xs commands slot s state (Some i.life)
        (life-now settings xs commands slot s e))

-- ---- the slot of a client among all

is_key : Seat → ℕ → ℕ → Bool
is_key p client number = nat_eq p.client client && nat_eq p.number number

here : (p : Seat) (ps : List Seat) (client number : ℕ) → p.client ≡ client → p.number ≡ number
    → cells_done_at (p ∷ ps) client number ≡ cells_done_of p.slot
unfolding cells_done_at
here p ps client number c n = rw (eq-eqb p.client client c, eq-eqb p.number number n) refl

elsewhere : (p : Seat) (ps : List Seat) (client number : ℕ)
    → ((p.client ≡ client) → (p.number ≡ number) → ⊥)
    → cells_done_at (p ∷ ps) client number ≡ cells_done_at ps client number
unfolding cells_done_at is_key
elsewhere p ps client number other = by_test (is_key p client number) refl
  where
    by_test : (b : Bool) → is_key p client number ≡ b
        → (if is_key p client number then cells_done_of p.slot
        else cells_done_at ps client number) ≡ cells_done_at ps client number
    by_test true e =
        let both = and_parts (nat_eq p.client client) (nat_eq p.number number) e in
        absurd (other (eqb-true p.client client both.0) (eqb-true p.number number both.1))
    by_test false e = rw e refl

-- that of its seat
pub cells-at : (ps : List Seat) (at client number : ℕ) (p : Seat) → Once (keys_of ps)
    → IsAt (keys_of ps) at client number → p ≡ get_or ps at p
    → cells_done_at ps client number ≡ cells_done_of p.slot
cells-at [] at client number p once there is = cc
cells-at (q ∷ ps) zero client number p once there is =
    let f = found (q ∷ ps) zero client number q there refl in
    here q ps client number f.client_is f.number_is
    ∙ sym (ap (λ (x : Seat). cells_done_of x.slot) is)
cells-at (q ∷ ps) (suc at) client number p once there is =
    elsewhere q ps client number
    (not-first (q.client, q.number) (keys_of ps) at client number once there)
    ∙ cells-at ps at client number p (once-tail (q.client, q.number) (keys_of ps) once) there is

-- no seat is that of another slot
pub cells-nowhere : (ps : List Seat) (client number : ℕ)
    → ((j : ℕ) → IsAt (keys_of ps) j client number → ⊥) → cells_done_at ps client number ≡ None
unfolding cells_done_at
cells-nowhere [] client number out = refl
cells-nowhere (p ∷ ps) client number out =
    elsewhere p ps client number (λ c n. out 0 (rw (c, n) refl))
    ∙ cells-nowhere ps client number (λ j. out (suc j))

-- ---- how many more they are

-- one search, of which two stages have come as far as the samples bring it
more : (settings : Settings) (xs ys : List Sample) (life : Life) (old new : Stage)
    (before after : ℕ) → Follows settings xs life old → Follows settings (xs ++ ys) life new
    → stages.cells_done_of old ≡ Some before → stages.cells_done_of new ≡ Some after
    → after ≤ before + (length ys / 4 + 1)
more settings xs ys life Idle new before after s t b a = cc
more settings xs ys life (Following f) new before after s t b a = cc
more settings xs ys life (Searching p) Idle before after s t b a = cc
more settings xs ys life (Searching p) (Following f) before after s t b a = cc
more settings xs ys life (Searching p) (Searching q) before after s t b a =
    let many : length (xs ++ ys) ≡ length xs + length ys = simp length-append (omega arith) in
    let same : t.plan ≡ s.plan = cc in
    let first : before ≡ cells_done settings s.plan life.begun (length xs) = cc in
    let last : after ≡ cells_done settings s.plan life.begun (length xs + length ys) = cc in
    omega (arith, first, last, cells-come settings s.plan life.begun (length xs) (length ys))

pub more-of : (settings : Settings) (xs ys : List Sample) (commands : List TimedRequest)
    (old new : Slot) (before after : ℕ) → StandsFor settings xs commands old
    → StandsFor settings (xs ++ ys) commands new → cells_done_of old ≡ Some before
    → cells_done_of new ≡ Some after → after ≤ before + (length ys / 4 + 1)
more-of settings xs ys commands old new before after s t b a =
    let i = has-life settings xs commands old s (not-idle old.stage before b) in
    let j = has-life settings (xs ++ ys) commands new t (not-idle new.stage after a) in
    let same : Some j.life ≡ Some i.life =
    sym j.of ∙ life_of-append settings xs ys commands s.early ∙ i.of in
    let one : j.life ≡ i.life = cc in
    more settings xs ys i.life old.stage new.stage before after i.follows
    (rw one at j.follows) b a
  where
    not-idle : (stage : Stage) (n : ℕ) → stages.cells_done_of stage ≡ Some n
        → stages.is_idle stage ≡ false
    not-idle Idle n e = cc
    not-idle (Searching a) n e = refl
    not-idle (Following f) n e = cc

-- the same of all seats
module _ (settings : Settings) (xs ys : List Sample) (asked : ℕ → ℕ → List TimedRequest)
    (client number before after : ℕ) where
  Each : List Sample → List Seat → Type 0
  Each zs ps =
      AllByRecursion (λ (p : Seat). StandsFor settings zs (asked p.client p.number) p.slot) ps

  pub more-at : (ps qs : List Seat) → keys_of qs ≡ keys_of ps
      → AllByRecursion (λ (p : Seat). StandsFor settings xs (asked p.client p.number) p.slot) ps
      → AllByRecursion
      (λ (p : Seat). StandsFor settings (xs ++ ys) (asked p.client p.number) p.slot) qs
      → cells_done_at ps client number ≡ Some before
      → cells_done_at qs client number ≡ Some after
      → after ≤ before + (length ys / 4 + 1)
  unfolding cells_done_at is_key
  more-at [] qs keys old new b a = cc
  more-at (p ∷ ps) [] keys old new b a = cc
  more-at (p ∷ ps) (q ∷ qs) keys old new b a =
      let c : q.client ≡ p.client =
      ap (λ (l : List (ℕ × ℕ)). (get_or l 0 (0, 0)).0) keys in
      let n : q.number ≡ p.number =
      ap (λ (l : List (ℕ × ℕ)). (get_or l 0 (0, 0)).1) keys in
      let others : List (ℕ × ℕ) → List (ℕ × ℕ) = drop 1 in
      by_test (is_key p client number) refl c n
      (more-at ps qs (ap others keys) old.1 new.1)
    where
      by_test : (is : Bool) → is_key p client number ≡ is → q.client ≡ p.client
          → q.number ≡ p.number
          → (cells_done_at ps client number ≡ Some before
          → cells_done_at qs client number ≡ Some after → after ≤ before + (length ys / 4 + 1))
          → after ≤ before + (length ys / 4 + 1)
      by_test true e c n rest =
          more-of settings xs ys (asked p.client p.number) p.slot q.slot before after old.0
          (rw (c, n) at new.0) (rw e at b) (rw (c, n, e) at a)
      by_test false e c n rest = rest (rw e at b) (rw (c, n, e) at a)
